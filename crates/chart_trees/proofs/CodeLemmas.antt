-- The code of a derivation is that of its skeleton.
use Rattle.std.proofs.Common.{◌≡◌, ◌∷◌, ◌++◌, refl, sym, ap, ◌∙◌}
use Rattle.derivation_trees.specs.Trees.{Node, Nodes, node, none, more}
use Rattle.derivation_trees.specs.Settings.{Setting}
use Rattle.derivation_trees.specs.Derives.{IsDerivation}
use Rattle.derivation_trees.specs.Codes.{skeleton_code}
use Rattle.derivation_trees.specs.Skeletons.{skeleton_of}
use Rattle.derivation_trees.specs.Sketches.{sketch_of}
use Rattle.derivations.proofs.SkeletonLemmas.{skeleton_of_is}
use Rattle.derivations.proofs.UniqueLemmas.{node_code as tree_code, nodes_code as trees_code, code_is as tree_code_is}
use Rattle.chart_trees.specs.Order.{node_code, nodes_code}

mutual
  -- the code that tells trees apart is the one by which trees are ordered
  same_node_code : (n : Node) → tree_code n ≡ node_code n
  same_node_code (node number values found children) = ap (λ xs. number ∷ found ++ xs) (same_nodes_code children)

  same_nodes_code : (ns : Nodes) → trees_code ns ≡ nodes_code ns
  same_nodes_code none = refl
  same_nodes_code (more n ns) = ap (λ xs. xs ++ trees_code ns) (same_node_code n) ∙ ap (λ xs. node_code n ++ xs) (same_nodes_code ns)

-- the code of a derivation
pub code_is : (s : Setting) (tree : Node) → IsDerivation s tree → skeleton_code (skeleton_of s tree) ≡ node_code tree
code_is s tree d = tree_code_is s tree d ∙ same_node_code tree

pub sketch_code_is : (s : Setting) (tree : Node) → IsDerivation s tree → skeleton_code (sketch_of s tree 0) ≡ node_code tree
sketch_code_is s tree d = sym (ap skeleton_code (skeleton_of_is s tree d)) ∙ code_is s tree d
