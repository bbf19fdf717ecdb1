use Rattle.std.proofs.Common.{◌≡◌, drop}
use Rattle.derivation_trees.specs.Instances.{looked_up}
use Rattle.chart_table.proofs.branches.value_of.Given as goal

abbrev pub invariant-loop-other : goal.invariant-loop-other
invariant-loop-other l = looked_up (drop l.other-index l.bound) l.variable ≡ looked_up l.bound l.variable
