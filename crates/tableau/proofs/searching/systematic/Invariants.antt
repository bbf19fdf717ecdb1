use Rattle.std.proofs.Common.{◌≡◌, Some}
use Rattle.std.specs.Prelude.{IfSome, IsTrue, is_some}
use Rattle.logic_terms.specs.Known.{theory_of}
use Rattle.agenda.specs.Agendas.{IsAgendaOf}
use Rattle.tableau_rules.specs.Clashes.{is_clash, has_clash}
use Rattle.tableau_rules.specs.Searching.{searched}
use Rattle.tableau_rules.specs.Shown.{graph_of}
use Rattle.tableau.specs.Ways.{Leads, reached}
use Rattle.tableau.proofs.searching.systematic.Given as goal

abbrev pub invariant-loop-spent : goal.invariant-loop-spent
invariant-loop-spent l = record {
  leads : Leads (theory_of l.k) l.way;
  here : graph_of l.b ≡ (reached (theory_of l.k) l.way).graph;
  so_far : searched (theory_of l.k) l._spent ≡ Some (reached (theory_of l.k) l.way);
  agenda : IsAgendaOf (theory_of l.k) (graph_of l.b) l.agenda;
  exact : is_some l.found ≡ has_clash (theory_of l.k) (graph_of l.b);
  there : IfSome l.found (λ c. IsTrue (is_clash (theory_of l.k) (graph_of l.b) c));
}
