use Rattle.std.proofs.Common.{◌&&◌, length, take}
use Rattle.std.specs.Prelude.{not}
use Rattle.logic_terms.specs.Known.{theory_of}
use Rattle.logic_terms.specs.Same.{has_concept}
use Rattle.logic_terms.specs.Shown.{concept_of}
use Rattle.tableau_rules.specs.Blocking.{is_indirectly_blocked}
use Rattle.tableau_rules.specs.Carrying.{along}
use Rattle.tableau_rules.specs.Graph.{label_at}
use Rattle.tableau_rules.specs.Shown.{graph_of}
use Rattle.tableau_rules.proofs.Reaching.{IsLeast}
use Rattle.tableau_rules.proofs.rows.first_to_get_by.Given as goal

abbrev pub invariant-loop-edge : goal.invariant-loop-edge
invariant-loop-edge l = IsLeast (theory_of l.k) l.carrier (length (graph_of l.b).nodes) l.node
    (λ y. not (is_indirectly_blocked (theory_of l.k) (graph_of l.b) y) && not (has_concept (label_at (graph_of l.b) y) (along l.carrier (concept_of l.class))))
    (take l.edge-index l.edge-items) l.least
