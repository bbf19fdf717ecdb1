-- The systematic search: choices from the first on, and back to the last open choice at each clash.
use Rattle.std.specs.Prelude.{ℕ, zero, suc, ◌+◌, List, [], ◌∷◌, ◌++◌, nat_lt, Option, Some, None, IsTrue, is_some, if◌then◌else◌}
use Rattle.std.specs.Option.{option_and_then, option_map_or}
use Rattle.logic_terms.specs.Theory.{Theory}
use Rattle.tableau_rules.specs.declared.step.Step.{Step}
use Rattle.tableau_rules.specs.Graph.{Graph}
use Rattle.tableau_rules.specs.Clashes.{has_clash}
use Rattle.tableau_rules.specs.Rules.{first_step, choices, after}
use Rattle.tableau_rules.specs.Branches.{start}

-- a step whose choices from `next` on were not tried yet
pub record OpenChoice : Type 0 where
  pub graph : Graph
  pub step : Step
  pub next : ℕ

-- a search: the branch that the last application made, and the open choices, the last one first
pub record Searching : Type 0 where
  pub graph : Graph
  pub waiting : List OpenChoice

abbrev pub begun_search : Theory → Searching
begun_search k = record { graph = start k; waiting = [] }

-- the choice of a step that was not tried yet, and those after it
abbrev pub remaining : OpenChoice → List OpenChoice
remaining o = if nat_lt o.next (choices o.graph o.step) then o ∷ [] else []

-- the application of the first open choice; none where there is none, and the search has ended
abbrev pub resumed : Theory → List OpenChoice → Option Searching
resumed k [] = None
resumed k (o ∷ others) = Some (record {
  graph = after k o.graph o.step o.next;
  waiting = remaining (record { graph = o.graph; step = o.step; next = o.next + 1 }) ++ others;
})

-- the open choices at a branch: those of its first step before all others, and at a clash the others alone
abbrev pub open_choices : Theory → Searching → Option (List OpenChoice)
open_choices k s =
    if has_clash k s.graph then Some s.waiting
    else option_map_or (λ step. Some (remaining (record { graph = s.graph; step = step; next = 0 }) ++ s.waiting)) (first_step k s.graph) None

-- the search after one more rule application; none where it has ended, at a finished branch or with all branches closed
abbrev pub next_search : Theory → Searching → Option Searching
next_search k s = option_and_then (resumed k) (open_choices k s)

-- the search after so many rule applications; none where it ended before
abbrev pub searched : Theory → ℕ → Option Searching
searched k zero = Some (begun_search k)
searched k (suc n) = option_and_then (next_search k) (searched k n)

-- the search hasn't ended after so many rule applications
abbrev pub IsLonger : Theory → ℕ → Type 0
IsLonger k n = IsTrue (is_some (searched k (suc n)))
