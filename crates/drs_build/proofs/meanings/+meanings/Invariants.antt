use Rattle.std.proofs.Common.{◌+◌, ◌*◌}
use Rattle.derivation_trees.specs.declared.skeletons.Skeleton.TheViews.{size-Skeleton}
use Rattle.drs_build.proofs.meanings.+meanings.Given as goal

-- the depth first, then how far a call is from the children

abbrev pub decreases-says : goal.decreases-says
decreases-says l = 4 * size-Skeleton l.node.now + 3

abbrev pub decreases-on : goal.decreases-on
decreases-on l = 4 * size-Skeleton l.node.now + 3

abbrev pub decreases-around : goal.decreases-around
decreases-around l = 4 * size-Skeleton l.node.now + 3

abbrev pub decreases-says_by : goal.decreases-says_by
decreases-says_by l = 4 * size-Skeleton l.node.now + 2

abbrev pub decreases-on_by : goal.decreases-on_by
decreases-on_by l = 4 * size-Skeleton l.node.now + 2

abbrev pub decreases-around_by : goal.decreases-around_by
decreases-around_by l = 4 * size-Skeleton l.node.now + 2

abbrev pub decreases-thing_said : goal.decreases-thing_said
decreases-thing_said l = 4 * size-Skeleton l.node.now + 1

abbrev pub decreases-child_says : goal.decreases-child_says
decreases-child_says l = 4 * size-Skeleton l.node.now

abbrev pub decreases-child_on : goal.decreases-child_on
decreases-child_on l = 4 * size-Skeleton l.node.now

abbrev pub decreases-child_around : goal.decreases-child_around
decreases-child_around l = 4 * size-Skeleton l.node.now
