use Rattle.std.proofs.Common.{◌≡◌, drop, []}
use Rattle.std.specs.List.{flat_map}
use Rattle.codeco_checked.specs.Occurrences.{mentions}
use Rattle.derivation_trees.specs.Putting.{put_all, features_in}
use Rattle.derivation_trees.proofs.features.put_body.Given as goal

abbrev pub invariant-loop-element : goal.invariant-loop-element
invariant-loop-element l =
    put_all l.features.items (flat_map (features_in l.name) (flat_map mentions (drop l.element-index l.body)))
    ≡ put_all l.initial.features.items (flat_map (features_in l.name) (flat_map mentions l.body))
