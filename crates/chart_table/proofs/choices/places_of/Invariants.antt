use Rattle.std.proofs.Common.{◌≡◌, take}
use Rattle.std.specs.List.{flat_map}
use Rattle.codeco_checked.specs.Occurrences.{positions}
use Rattle.chart_table.proofs.choices.places_of.Given as goal

abbrev pub invariant-loop-element : goal.invariant-loop-element
invariant-loop-element l = l.places ≡ flat_map positions (take l.element-index l.body)
