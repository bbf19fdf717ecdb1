-- The codes of trees, and which of two codes is lower. Only private calls speak of it.
use Rattle.std.specs.Prelude.{◌≡◌, ℕ, ◌<◌, List, [], ◌∷◌, ◌++◌, ◌⊎◌}
use Rattle.std.specs.List.{flat_map}
use Rattle.derivation_trees.specs.Trees.{Node, Nodes, node, none, more}

abbrev mutual
  -- the code of a tree: the number of its rule, the found positions from left to right, and then the codes of its children
  -- from left to right
  pub node_code : Node → List ℕ
  node_code (node number values found children) = number ∷ found ++ nodes_code children

  pub nodes_code : Nodes → List ℕ
  nodes_code none = []
  nodes_code (more n ns) = node_code n ++ nodes_code ns

-- the codes of trees, one after another
abbrev pub codes : List Node → List ℕ
codes ns = flat_map node_code ns

-- the first is lower where the two first differ
abbrev pub Lower : List ℕ → List ℕ → Type 0
Lower [] ys = ⊥
Lower (x ∷ xs) [] = ⊥
Lower (x ∷ xs) (y ∷ ys) = (x < y) ⊎ ((x ≡ y) × Lower xs ys)

-- the two are the same, or the first is lower where they first differ
abbrev pub AtMost : List ℕ → List ℕ → Type 0
AtMost xs ys = (xs ≡ ys) ⊎ Lower xs ys
