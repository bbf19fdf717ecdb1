use Rattle.std.proofs.Common.{◌≡◌, drop}
use Rattle.std.specs.Prelude.{filter, slice_get}
use Rattle.derivation_trees.specs.declared.skeletons.Skeleton.{out-Skeleton}
use Rattle.drs_build.specs.Nodes.{is_meant}
use Rattle.drs_build.proofs.nodes.child_place.Given as goal

abbrev pub invariant-loop-place : goal.invariant-loop-place
invariant-loop-place l = slice_get (filter (λ c. is_meant l.grammar (out-Skeleton c).rule) (drop l.place l.children)) l.left
    ≡ slice_get (filter (λ c. is_meant l.grammar (out-Skeleton c).rule) l.children) l.number
