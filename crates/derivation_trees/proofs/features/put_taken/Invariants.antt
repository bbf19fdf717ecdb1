use Rattle.std.proofs.Common.{◌≡◌, drop, map, []}
use Rattle.derivation_trees.specs.Putting.{put_all}
use Rattle.derivation_trees.proofs.features.put_taken.Given as goal

abbrev pub invariant-loop-feature : goal.invariant-loop-feature
invariant-loop-feature l =
    put_all l.features.items (map (λ t. t.0) (drop l.feature-index l.taken)) ≡ put_all l.initial.features.items (map (λ t. t.0) l.taken)
