use Rattle.std.proofs.Common.{◌≡◌, drop}
use Rattle.derivation_trees.specs.Instances.{looked_up}
use Rattle.derivation_trees.proofs.stand.written.Given as goal

abbrev pub invariant-loop-other : goal.invariant-loop-other
invariant-loop-other l =
    looked_up (drop l.other-index l.feats) l.feature ≡ looked_up l.feats l.feature
