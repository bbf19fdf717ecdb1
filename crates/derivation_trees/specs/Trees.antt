-- Derivation trees as data.
use Rattle.std.specs.Prelude.{ℕ, List, [], ◌∷◌, map}
use Rattle.codeco_terms.specs.declared.values.Value.{Value}
use Rattle.derivation_trees.specs.declared.trees.Tree.{Tree}
use Rattle.derivation_trees.specs.declared.trees.Trees.{Trees, out-Trees}
use Rattle.derivation_trees.specs.declared.trees.Tree.TheOpen.{Tree-F, Trees-F}
use Rattle.derivation_trees.specs.declared.trees.Tree.TheFolds.{fold-Tree}

mutual
  -- a node: the number of its rule, an instance of the rule, the positions that its references have found, and its children
  pub data Node : Type 0 where
    node : (rule : ℕ) → (values : List (ℕ × Value)) → (found : List ℕ) → (children : Nodes) → Node

  -- nodes, from left to right
  pub data Nodes : Type 0 where
    none : Nodes
    more : Node → Nodes → Nodes

abbrev pub nodes_from : List Node → Nodes
nodes_from [] = none
nodes_from (n ∷ ns) = more n (nodes_from ns)

-- one layer of a tree, and of a list of trees, with the nodes of the children in their places
abbrev pub tree_layer : Tree-F Node Nodes → Node
tree_layer tree = node tree.rule tree.values tree.found tree.children

abbrev pub trees_layer : Trees-F Node Nodes → Nodes
trees_layer trees = nodes_from trees.items.items

-- the node that a tree is
abbrev pub node_of : Tree → Node
node_of = fold-Tree Node Nodes tree_layer trees_layer

-- the nodes of a list of trees, in order
abbrev pub nodes_of : Trees → List Node
nodes_of trees = map node_of (out-Trees trees).items.items
