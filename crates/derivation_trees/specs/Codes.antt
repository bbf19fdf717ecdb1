-- The code of a skeleton.
use Rattle.std.specs.Prelude.{ℕ, List, [], ◌∷◌, ◌++◌}
use Rattle.std.specs.List.{flat_map}
use Rattle.derivation_trees.specs.declared.skeletons.Skeleton.{Skeleton}
use Rattle.derivation_trees.specs.declared.skeletons.Skeleton.TheOpen.{Skeleton-F}
use Rattle.derivation_trees.specs.declared.skeletons.Skeleton.TheFolds.{fold-Skeleton}

-- one layer, with the codes of the children in their places
abbrev pub code_layer : Skeleton-F (List ℕ) → List ℕ
code_layer layer = layer.rule ∷ layer.found ++ flat_map (λ code. code) layer.children

-- the number of the rule, the found positions from left to right, and then the codes of the children from left to right
abbrev pub skeleton_code : Skeleton → List ℕ
skeleton_code = fold-Skeleton (List ℕ) code_layer
