-- The choices of a step before its last one. Only private calls speak of it.
use Rattle.std.specs.Prelude.{ℕ, ◌≡◌, ◌≤◌, ◌+◌, ◌&&◌, Bool, true, List, [], ◌∷◌}
use Rattle.logic_terms.specs.Theory.{Theory}
use Rattle.tableau_rules.specs.declared.step.Step.{Step}
use Rattle.tableau_rules.specs.declared.step.Closed.{Closed}
use Rattle.tableau_rules.specs.declared.step.Closed.TheViews.{size-Closed}
use Rattle.tableau_rules.specs.Graph.{Graph}
use Rattle.tableau_rules.specs.Rules.{after}
use Rattle.tableau_rules.specs.Trees.{Tree, tree_of, closes}

-- whether each of these trees closes the branch after its choice of a step, which are counted from a number on
abbrev pub close_firsts : Theory → Graph → Step → ℕ → List Tree → Bool
close_firsts k g step choice [] = true
close_firsts k g step choice (t ∷ ts) = closes k (after k g step choice) t && close_firsts k g step (choice + 1) ts

-- another branch and a tree that is no deeper decide whether a tree closes a branch
abbrev pub Follows : Theory → Graph → Closed → Graph → Closed → Type 0
Follows k g t h u = (closes k h (tree_of u) ≡ closes k g (tree_of t)) × (size-Closed u ≤ size-Closed t)
