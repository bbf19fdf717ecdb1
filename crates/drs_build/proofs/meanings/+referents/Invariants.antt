use Rattle.std.proofs.Common.{◌+◌, ◌*◌}
use Rattle.derivation_trees.specs.declared.skeletons.Skeleton.TheViews.{size-Skeleton}
use Rattle.drs_build.proofs.meanings.+referents.Given as goal

-- the depth first, then how far a call is from the children

abbrev pub decreases-referent : goal.decreases-referent
decreases-referent l = 4 * size-Skeleton l.node.now + 3

abbrev pub decreases-referent_by : goal.decreases-referent_by
decreases-referent_by l = 4 * size-Skeleton l.node.now + 2

abbrev pub decreases-child_referent : goal.decreases-child_referent
decreases-child_referent l = 4 * size-Skeleton l.node.now
