use Rattle.std.proofs.Common.{◌≡◌, ◌++◌, drop, map}
use Rattle.derivations.specs.Entries.{shown}
use Rattle.chart.specs.Offers.{used_forms, used_asks}
use Rattle.chart.proofs.offers.ask_used.Given as goal

abbrev pub invariant-loop-place : goal.invariant-loop-place
invariant-loop-place l = record {
  forms : map shown l.forms.items ++ used_forms l.used (drop l.place l.lexicon.live)
      ≡ map shown l.initial.forms.items ++ used_forms l.used l.lexicon.live;
  asks : l.asks ++ used_asks l.used (drop l.place l.lexicon.live) ≡ l.initial.asks ++ used_asks l.used l.lexicon.live;
}
