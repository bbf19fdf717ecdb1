use Rattle.std.proofs.Common.{◌+◌, ◌*◌}
use Rattle.derivation_trees.specs.declared.skeletons.Skeleton.TheViews.{size-Skeleton}
use Rattle.drs_build.proofs.meanings.+terms.Given as goal

-- the depth first, then how far a call is from the children

abbrev pub decreases-term : goal.decreases-term
decreases-term l = 4 * size-Skeleton l.node.now + 3

abbrev pub decreases-term_by : goal.decreases-term_by
decreases-term_by l = 4 * size-Skeleton l.node.now + 2

abbrev pub decreases-child_term : goal.decreases-child_term
decreases-child_term l = 4 * size-Skeleton l.node.now
