use Rattle.std.proofs.Common.{◌&&◌, length, sym, ◌∙◌}
use Rattle.std.specs.Prelude.{not}
use Rattle.logic_terms.specs.Known.{theory_of}
use Rattle.logic_terms.specs.Same.{has_concept}
use Rattle.logic_terms.specs.Shown.{concept_of}
use Rattle.tableau_rules.specs.Blocking.{is_indirectly_blocked}
use Rattle.tableau_rules.specs.Graph.{label_at}
use Rattle.tableau_rules.specs.Shown.{graph_of}
use Rattle.tableau_rules.proofs.Reaching.{served_here, served_none, served_passed}
use Rattle.tableau_rules.proofs.rows.is_served.Goals as goal

pub returns-then-is_witness : goal.returns-then-is_witness
returns-then-is_witness c =
    served_here (theory_of c.args.k.now) c.args.role (length (graph_of c.args.b.now).nodes) c.args.node
    (λ y. not (is_indirectly_blocked (theory_of c.args.k.now) (graph_of c.args.b.now) y)
    && has_concept (label_at (graph_of c.args.b.now) y) (concept_of c.args.class.now)) (graph_of c.args.b.now).edges c.edges_at-edge-items.result.now
    c.edges_at-edge-items.ensures c.loop-edge.edge-index _ c.loop-edge-test.true (sym c.is_witness.ensures ∙ c.if-is_witness.true)

pub loop-edge-preserved : goal.loop-edge-preserved
loop-edge-preserved c =
    served_passed (theory_of c.args.k.now) c.args.role (length (graph_of c.args.b.now).nodes) c.args.node
    (λ y. not (is_indirectly_blocked (theory_of c.args.k.now) (graph_of c.args.b.now) y)
    && has_concept (label_at (graph_of c.args.b.now) y) (concept_of c.args.class.now)) c.edges_at-edge-items.result.now c.loop-edge.edge-index _
    c.loop-edge-test.true c.loop-edge.invariant (sym c.is_witness.ensures ∙ c.if-is_witness.false)

pub returns : goal.returns
returns c =
    served_none (theory_of c.args.k.now) c.args.role (length (graph_of c.args.b.now).nodes) c.args.node
    (λ y. not (is_indirectly_blocked (theory_of c.args.k.now) (graph_of c.args.b.now) y)
    && has_concept (label_at (graph_of c.args.b.now) y) (concept_of c.args.class.now)) (graph_of c.args.b.now).edges c.edges_at-edge-items.result.now
    c.edges_at-edge-items.ensures c.loop-edge.edge-index c.loop-edge-test.false c.loop-edge.invariant
