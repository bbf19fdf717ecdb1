-- The least skeleton of the derivations among listed trees. Only private calls speak of it.
use Rattle.std.specs.Prelude.{◌≡◌, List, map, ◌⊎◌, Option, Some}
use Rattle.derivation_trees.specs.declared.skeletons.Skeleton.{Skeleton}
use Rattle.derivation_trees.specs.Trees.{Node, node_of}
use Rattle.derivation_trees.specs.Settings.{Setting}
use Rattle.derivation_trees.specs.Derives.{IsDerivation}
use Rattle.derivation_trees.specs.Skeletons.{IsBelow}
use Rattle.derivation_trees.specs.Sketches.{sketch_of}
use Rattle.derivations.specs.declared.paths.Outcome.{Outcome}
use Rattle.derivations.specs.Among.{Among}

-- the trees of outcomes
abbrev pub listed : List Outcome → List Node
listed outcomes = map (λ o. node_of o.tree) outcomes

-- the skeleton is that of one of the derivations among the trees, and none of them has one whose code is below
pub record LeastOf (s : Setting) (trees : List Node) (least : Option Skeleton) : Type 0 where
  pub is : (sk : Skeleton) → least ≡ Some sk → (tree : Node) × IsDerivation s tree × (sk ≡ sketch_of s tree 0)
  pub none_below : (tree : Node) → Among trees tree → IsDerivation s tree → (sk : Skeleton) × (least ≡ Some sk) × (IsBelow (sketch_of s tree 0) sk → ⊥)

-- the skeleton is one of the two, and neither has a code below
pub record IsLesser (least : Option Skeleton) (other : Skeleton) (chosen : Skeleton) : Type 0 where
  pub either : (chosen ≡ other) ⊎ (least ≡ Some chosen)
  pub other_not : IsBelow other chosen → ⊥
  pub least_not : (old : Skeleton) → least ≡ Some old → IsBelow old chosen → ⊥
