use Rattle.std.proofs.Common.{◌≡◌, take}
use Rattle.derivation_trees.specs.Instances.{feats_under}
use Rattle.derivation_trees.proofs.instances.feats_under.Given as goal

abbrev pub invariant-loop-feature : goal.invariant-loop-feature
invariant-loop-feature l =
    l.found ≡ feats_under l.values (take l.feature-index l.feats)
