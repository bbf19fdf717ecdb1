use Rattle.std.proofs.Common.{ℕ, ◌+◌, ◌&&◌, Bool, take, length, Some, subst, sym, ap, ◌∙◌}
use Rattle.std.specs.Prelude.{not}
use Rattle.logic_terms.specs.Known.{theory_of}
use Rattle.logic_terms.specs.Same.{has_concept}
use Rattle.logic_terms.specs.Shown.{concept_of}
use Rattle.tableau_rules.specs.Blocking.{is_indirectly_blocked}
use Rattle.tableau_rules.specs.Carrying.{along}
use Rattle.tableau_rules.specs.Graph.{label_at}
use Rattle.tableau_rules.specs.Shown.{graph_of}
use Rattle.tableau_rules.proofs.Reaching.{IsLeast, lower, least_here, least_on, least_all}
use Rattle.tableau_rules.proofs.rows.first_to_get_by.Goals as goal
use Rattle.tableau_rules.proofs.rows.first_to_get_by.Goals.{then-lacks_along, else-lacks_along}

pub loop-edge-preserved : goal.loop-edge-preserved
loop-edge-preserved c =
    let wanted : ℕ → Bool = λ y. not (is_indirectly_blocked (theory_of c.args.k.now) (graph_of c.args.b.now) y)
    && not (has_concept (label_at (graph_of c.args.b.now) y) (along c.args.carrier (concept_of c.args.class.now))) in
    elim c.if-lacks_along.branch [
      | then-lacks_along w ↦
          subst (IsLeast (theory_of c.args.k.now) c.args.carrier (length (graph_of c.args.b.now).nodes) c.args.node wanted
          (take (c.loop-edge.edge-index + 1) c.edges_at-edge-items.result.now))
          (sym (w.least-is ∙ ap Some (w.lesser.ensures ∙ ap (lower c.loop-edge.least) w.far_end.ensures)))
          (least_here (theory_of c.args.k.now) c.args.carrier (length (graph_of c.args.b.now).nodes) c.args.node wanted c.edges_at-edge-items.result.now
          c.loop-edge.edge-index _ c.loop-edge-test.true c.loop-edge.least c.loop-edge.invariant (sym c.lacks_along.ensures ∙ w.if-lacks_along.true))
      | else-lacks_along w ↦
          subst (IsLeast (theory_of c.args.k.now) c.args.carrier (length (graph_of c.args.b.now).nodes) c.args.node wanted
          (take (c.loop-edge.edge-index + 1) c.edges_at-edge-items.result.now))
          (sym w.least-is)
          (least_on (theory_of c.args.k.now) c.args.carrier (length (graph_of c.args.b.now).nodes) c.args.node wanted c.edges_at-edge-items.result.now
          c.loop-edge.edge-index _ c.loop-edge-test.true c.loop-edge.least c.loop-edge.invariant (sym c.lacks_along.ensures ∙ w.if-lacks_along.false))
    ]

pub returns : goal.returns
returns c =
    least_all (theory_of c.args.k.now) c.args.carrier (length (graph_of c.args.b.now).nodes) c.args.node
    (λ y. not (is_indirectly_blocked (theory_of c.args.k.now) (graph_of c.args.b.now) y)
    && not (has_concept (label_at (graph_of c.args.b.now) y) (along c.args.carrier (concept_of c.args.class.now)))) (graph_of c.args.b.now).edges
    c.edges_at-edge-items.result.now
    c.edges_at-edge-items.ensures c.loop-edge.edge-index c.loop-edge.least c.loop-edge-test.false c.loop-edge.invariant
