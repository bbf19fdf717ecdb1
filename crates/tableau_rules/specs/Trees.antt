-- Closed trees.
use Rattle.std.specs.Prelude.{ℕ, ◌+◌, ◌==◌, ◌&&◌, Bool, List, [], ◌∷◌}
use Rattle.logic_terms.specs.Theory.{Theory}
use Rattle.tableau_rules.specs.declared.step.Clash.{Clash as OneClash}
use Rattle.tableau_rules.specs.declared.step.Step.{Step as OneStep}
use Rattle.tableau_rules.specs.declared.step.Closed.{Closed}
use Rattle.tableau_rules.specs.declared.step.Closed.TheOpen.{Closed-F, Clash, Step}
use Rattle.tableau_rules.specs.declared.step.Closed.TheFolds.{fold-Closed}
use Rattle.tableau_rules.specs.Graph.{Graph}
use Rattle.tableau_rules.specs.Clashes.{is_clash}
use Rattle.tableau_rules.specs.Rules.{applies, choices, after}
use Rattle.tableau_rules.specs.Branches.{start}

-- a tree: a clash, or a step with a list of trees
mutual
  pub data Tree : Type 0 where
    ends : OneClash → Tree
    splits : OneStep → Trees → Tree

  pub data Trees : Type 0 where
    no_tree : Trees
    also_tree : Tree → Trees → Trees

abbrev pub trees_from : List Tree → Trees
trees_from [] = no_tree
trees_from (t ∷ ts) = also_tree t (trees_from ts)

-- one layer of a `Closed`, with the trees of its parts in their places
abbrev pub tree_layer : Closed-F Tree → Tree
tree_layer (Clash clash) = ends clash
tree_layer (Step step subtrees) = splits step (trees_from subtrees)

-- the tree that a `Closed` shows
abbrev pub tree_of : Closed → Tree
tree_of = fold-Closed Tree tree_layer

-- whether a tree closes a branch: its clash is there, or its step applies there, and there is one subtree for each choice,
-- which closes the branch after it
abbrev mutual
  pub closes : Theory → Graph → Tree → Bool
  closes k g (ends clash) = is_clash k g clash
  closes k g (splits step subtrees) = applies k g step && close_from k g step 0 subtrees

  -- the choices from this one on
  pub close_from : Theory → Graph → OneStep → ℕ → Trees → Bool
  close_from k g step choice no_tree = choice == choices g step
  close_from k g step choice (also_tree t ts) = closes k (after k g step choice) t && close_from k g step (choice + 1) ts

-- a closed tree of the knowledge closes the first branch
abbrev pub is_closed : Theory → Tree → Bool
is_closed k t = closes k (start k) t
