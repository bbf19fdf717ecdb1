-- What a search does next. Only private calls speak of it.
use Rattle.std.specs.Prelude.{◌≡◌, List, [], ◌∷◌, length, Some, None, IsTrue}
use Rattle.logic_terms.specs.Theory.{Theory}
use Rattle.tableau_rules.specs.declared.step.Closed.{Closed}
use Rattle.tableau_rules.specs.declared.step.Step.{Step}
use Rattle.tableau_rules.specs.Graph.{Graph}
use Rattle.tableau_rules.specs.Branches.{is_finished}
use Rattle.tableau_rules.specs.Searching.{OpenChoice, Searching, next_search}
use Rattle.tableau_rules.specs.Shown.{graph_of}
use Rattle.tableau_rules.specs.Trees.{tree_of, is_closed}
use Rattle.tableau.specs.declared.way.Taken.{Taken}
use Rattle.tableau.specs.declared.turn.Turn.{Turn}
use Rattle.tableau.specs.declared.turn.Turn.TheVariants.{Finished, Shut, Forward, Back}
use Rattle.tableau.specs.Ways.{Leads, reached, chosen, choice_of, IsOpen}

-- the next application of a search takes an open choice at this branch, which the way leads to
pub record IsNext (k : Theory) (s : Searching) (way : List Taken) (step : Step) (trees : List Closed) (g : Graph) : Type 0 where
  pub leads : Leads k way
  pub choice : IsOpen k (reached k way) step trees
  pub before : g ≡ (reached k way).graph
  pub next : next_search k s ≡ Some (chosen k (reached k way) step (length trees))

abbrev pub IsTurn : Theory → Searching → List Taken → Turn → Type 0
IsTurn k s way Finished = IsTrue (is_finished k s.graph)
IsTurn k s way (Shut tree) = IsTrue (is_closed k (tree_of tree)) × (next_search k s ≡ None)
IsTurn k s way (Forward step) = IsNext k s way step [] s.graph
IsTurn k s way (Back step trees before) = IsNext k s way step trees (graph_of before)

-- the first of the waiting choices is an open one at this branch, which the way leads to
pub record IsLast (k : Theory) (waiting : List OpenChoice) (way : List Taken) (step : Step) (trees : List Closed) (g : Graph) : Type 0 where
  pub leads : Leads k way
  pub choice : IsOpen k (reached k way) step trees
  pub before : g ≡ (reached k way).graph
  pub first : waiting ≡ choice_of (reached k way).graph step (length trees) ∷ (reached k way).waiting

abbrev pub IsBack : Theory → List OpenChoice → List Taken → Turn → Type 0
IsBack k waiting way Finished = ⊥
IsBack k waiting way (Shut tree) = IsTrue (is_closed k (tree_of tree)) × (waiting ≡ [])
IsBack k waiting way (Forward step) = ⊥
IsBack k waiting way (Back step trees before) = IsLast k waiting way step trees (graph_of before)
