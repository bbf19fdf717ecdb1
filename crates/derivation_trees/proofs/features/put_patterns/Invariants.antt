use Rattle.std.proofs.Common.{◌≡◌, drop, map, []}
use Rattle.std.specs.List.{flat_map}
use Rattle.codeco_checked.specs.Occurrences.{whole}
use Rattle.derivation_trees.specs.Putting.{put_all, features_in}
use Rattle.derivation_trees.proofs.features.put_patterns.Given as goal

abbrev pub invariant-loop-pattern : goal.invariant-loop-pattern
invariant-loop-pattern l =
    put_all l.features.items (flat_map (features_in l.name) (map whole (drop l.pattern-index l.patterns)))
    ≡ put_all l.initial.features.items (flat_map (features_in l.name) (map whole l.patterns))
