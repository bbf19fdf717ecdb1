use Rattle.std.proofs.Common.{◌≡◌, ◌++◌, drop, map}
use Rattle.derivations.specs.Entries.{shown}
use Rattle.chart.specs.Offers.{new_forms}
use Rattle.chart.proofs.offers.add_words.Given as goal

abbrev pub invariant-loop-place : goal.invariant-loop-place
invariant-loop-place l =
    map shown l.found.items ++ new_forms l.used l.told (drop l.place l.lexicon.live)
    ≡ map shown l.initial.found.items ++ new_forms l.used l.told l.lexicon.live
