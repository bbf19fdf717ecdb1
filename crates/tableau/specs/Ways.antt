-- The way of a search from its first branch to the present one: its choices, the first one first. Only private calls speak of it.
use Rattle.std.specs.Prelude.{ℕ, ◌≡◌, ◌+◌, ◌<◌, ◌≤◌, true, false, List, [], ◌∷◌, ◌++◌, map, length, Option, Some, None}
use Rattle.logic_terms.specs.Theory.{Theory}
use Rattle.tableau_rules.specs.declared.branch.Branch.{Branch}
use Rattle.tableau_rules.specs.declared.step.Closed.{Closed}
use Rattle.tableau_rules.specs.declared.step.Step.{Step}
use Rattle.tableau_rules.specs.Graph.{Graph}
use Rattle.tableau_rules.specs.Clashes.{has_clash}
use Rattle.tableau_rules.specs.Rules.{first_step, choices, after}
use Rattle.tableau_rules.specs.Searching.{OpenChoice, Searching, begun_search, remaining}
use Rattle.tableau_rules.specs.Shown.{graph_of}
use Rattle.tableau_rules.specs.Trees.{Tree, tree_of, closes}
use Rattle.tableau.specs.declared.way.Taken.{Taken}

-- a choice of a step at a branch
abbrev pub choice_of : Graph → Step → ℕ → OpenChoice
choice_of g step n = record { graph = g; step = step; next = n }

-- the search after a choice of a step at its branch, with the choices behind it left open
abbrev pub chosen : Theory → Searching → Step → ℕ → Searching
chosen k s step n = record { graph = after k s.graph step n; waiting = remaining (choice_of s.graph step (n + 1)) ++ s.waiting }

-- the search at the end of a way
abbrev pub led : Theory → Searching → List Taken → Searching
led k s [] = s
led k s (t ∷ ts) = led k (chosen k s t.step (length t.trees)) ts

abbrev pub reached : Theory → List Taken → Searching
reached k ts = led k (begun_search k) ts

-- trees that close the choices of a step from this one on, each the one at its place
abbrev pub CloseEach : Theory → Graph → Step → ℕ → List Tree → Type 0
CloseEach k g step n [] = Unit {0}
CloseEach k g step n (t ∷ ts) = (closes k (after k g step n) t ≡ true) × CloseEach k g step (n + 1) ts

-- the first step at a branch without clash has a choice behind those with these trees, which close the branch after theirs
pub record IsOpen (k : Theory) (s : Searching) (step : Step) (trees : List Closed) : Type 0 where
  pub calm : has_clash k s.graph ≡ false
  pub first : first_step k s.graph ≡ Some step
  pub there : length trees < choices s.graph step
  pub tried : CloseEach k s.graph step 0 (map tree_of trees)

-- the branch is kept exactly where a choice is left behind this one
abbrev pub IsKept : Graph → Step → ℕ → Option Branch → Type 0
IsKept g step n None = choices g step ≤ n + 1
IsKept g step n (Some b) = (n + 1 < choices g step) × (graph_of b ≡ g)

-- each choice of a way is an open one, at the search that the choices before it led to
abbrev pub IsWay : Theory → Searching → List Taken → Type 0
IsWay k s [] = Unit {0}
IsWay k s (t ∷ ts) =
    IsOpen k s t.step t.trees × (IsKept s.graph t.step (length t.trees) t.kept × IsWay k (chosen k s t.step (length t.trees)) ts)

abbrev pub Leads : Theory → List Taken → Type 0
Leads k ts = IsWay k (begun_search k) ts
