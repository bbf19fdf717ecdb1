use Rattle.std.proofs.Common.{◌≡◌, ◌++◌, drop, map}
use Rattle.derivations.specs.Entries.{shown}
use Rattle.chart.specs.Offers.{told_forms}
use Rattle.chart.proofs.offers.add_forms.Given as goal

abbrev pub invariant-loop-place : goal.invariant-loop-place
invariant-loop-place l =
    map shown l.found.items ++ told_forms l.told l.word.forms.kind l.place (drop l.place l.word.forms.texts)
    ≡ map shown l.initial.found.items ++ told_forms l.told l.word.forms.kind 0 l.word.forms.texts
