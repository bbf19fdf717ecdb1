-- Where a search stands after a choice: its agenda, and a clash that is looked for where the step changed something.
use Rattle.std.proofs.Common.{◌≡◌, List, [], length, subst, sym, ap, ◌∙◌}
use Rattle.logic_terms.specs.Theory.{Theory}
use Rattle.agenda.specs.declared.keeping.Agenda.{Agenda}
use Rattle.agenda.specs.Agendas.{IsAgendaOf, Follows, IsAfterCalm}
use Rattle.tableau_rules.specs.declared.branch.Branch.{Branch}
use Rattle.tableau_rules.specs.Shown.{graph_of}
use Rattle.tableau_rules.specs.declared.step.Closed.{Closed}
use Rattle.tableau_rules.specs.declared.step.Step.{Step}
use Rattle.tableau_rules.specs.Graph.{Graph}
use Rattle.tableau.specs.declared.way.Taken.{Taken}
use Rattle.tableau.specs.Turns.{IsNext}
use Rattle.tableau.specs.Ways.{reached, chosen}
use Rattle.tableau.specs.Ways.{IsOpen}
use Rattle.tableau_rules.specs.Searching.{Searching}
use Rattle.tableau.proofs.WayLemmas.{first_applies, leads_to_branch}

-- the branch of a choice is one after a step at a branch without clash
pub after_calm : (k : Theory) (before : Searching) (step : Step) (trees : List Closed) (h : Graph) (later : Searching) → IsOpen k before step trees
    → later ≡ chosen k before step (length trees) → h ≡ later.graph → IsAfterCalm k step h
after_calm k before step trees h later choice is here =
    (before.graph, length trees, choice.calm, first_applies k before.graph step choice.first, here ∙ ap (λ s. s.graph) is)

-- the agenda of the branch before it becomes one of the branch after it
pub next_agenda : (k : Theory) (s : Searching) (way : List Taken) (step : Step) (g h : Graph) (later : Searching) (old new : Agenda)
    → IsNext k s way step [] s.graph → g ≡ s.graph → later ≡ chosen k (reached k way) step 0 → h ≡ later.graph → Follows k step h old new → IsAgendaOf k g old
    → IsAgendaOf k h new
next_agenda k s way step g h later old new next at is here follows fits =
    follows (reached k way).graph 0 (leads_to_branch k way next.leads) (first_applies k (reached k way).graph step next.choice.first)
    (here ∙ ap (λ t. t.graph) is)
    (subst (λ f. IsAgendaOf k f old) (at ∙ next.before) fits)

-- equal branches and agendas
pub moved : (k : Theory) (old new : Branch) (before later : Agenda) → new ≡ old → later ≡ before → IsAgendaOf k (graph_of old) before
    → IsAgendaOf k (graph_of new) later
moved k old new before later same again fits = subst (IsAgendaOf k (graph_of new)) (sym again) (subst (λ b. IsAgendaOf k (graph_of b) before) (sym same) fits)
