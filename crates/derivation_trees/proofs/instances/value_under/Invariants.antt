use Rattle.std.proofs.Common.{◌≡◌, drop}
use Rattle.derivation_trees.specs.Instances.{looked_up}
use Rattle.derivation_trees.proofs.instances.value_under.Given as goal

abbrev pub invariant-loop-other : goal.invariant-loop-other
invariant-loop-other l =
    looked_up (drop l.other-index l.values) l.variable ≡ looked_up l.values l.variable
