use Rattle.std.proofs.Common.{◌≡◌, take, map}
use Rattle.chart_table.specs.Choices.{atom_value}
use Rattle.chart_table.proofs.choices.atom_values.Given as goal

abbrev pub invariant-loop-atom : goal.invariant-loop-atom
invariant-loop-atom l = l.values ≡ map atom_value (take l.atom-index l.atoms)
