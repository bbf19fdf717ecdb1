use Rattle.std.proofs.Common.{◌≡◌, ◌++◌, take}
use Rattle.std.specs.List.{flat_map}
use Rattle.derivation_trees.specs.declared.skeletons.Skeleton.{out-Skeleton}
use Rattle.derivation_trees.specs.declared.skeletons.Skeleton.TheViews.{size-Skeleton}
use Rattle.drs_build.specs.Nodes.{names_of, own_name, ends_of}
use Rattle.drs_build.proofs.names.+push_names.Given as goal

abbrev pub decreases-push_names : goal.decreases-push_names
decreases-push_names l = size-Skeleton l.skeleton.now

abbrev pub invariant-loop-place : goal.invariant-loop-place
invariant-loop-place l =
    l.names ≡ (l.fn.names ++ own_name l.grammar (out-Skeleton l.skeleton).rule (out-Skeleton l.skeleton).start (out-Skeleton l.skeleton).words
    (ends_of (out-Skeleton l.skeleton).children)) ++ flat_map (names_of l.grammar) (take l.place (out-Skeleton l.skeleton).children)
