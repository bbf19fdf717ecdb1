use Rattle.std.proofs.Common.{◌≡◌, true, subst, sym, ◌∙◌}
use Rattle.wiki_base.proofs.BoolLaws.{not_both}
use Rattle.logic_terms.specs.Known.{theory_of}
use Rattle.tableau_rules.specs.Shown.{graph_of}
use Rattle.agenda.specs.Resting.{waits_for, way_up}
use Rattle.agenda.specs.Views.{is_listed}
use Rattle.agenda.proofs.Waits.{waited_more, waited_all}
use Rattle.agenda.proofs.waiting.wait_for_blocked.Goals as goal
use Rattle.agenda.proofs.waiting.wait_for_blocked.Goals.{then-is_indirectly_blocked+in_ok-wait, else-is_indirectly_blocked}

pub loop-edge-preserved : goal.loop-edge-preserved
loop-edge-preserved c =
    let k = theory_of c.args.k.now in
    let g = graph_of c.args.b.now in
    elim c.if-is_indirectly_blocked.branch [
      | then-is_indirectly_blocked+in_ok-wait w ↦ record {
        more = λ z x h. subst (λ v. is_listed v.items z x ≡ true) (sym w.waiting-is) (w.in_ok-wait.ensures.more z x (c.loop-edge.invariant.more z x h));
        so_far = waited_more k g c.args.node c.edges_at-edge-items.result.now c.loop-edge.edge-index _ c.loop-edge-test.true
            (is_listed c.loop-edge.waiting.items) (is_listed c.if-is_indirectly_blocked.waiting.items)
            (λ z x h. subst (λ v. is_listed v.items z x ≡ true) (sym w.waiting-is) (w.in_ok-wait.ensures.more z x h)) c.loop-edge.invariant.so_far
            c.far_end-other.result c.far_end-other.ensures
            (λ stops. subst (λ v. waits_for (is_listed v.items) c.args.node (way_up g c.far_end-other.result) ≡ true) (sym w.waiting-is)
            w.in_ok-wait.ensures.there);
      }
      | else-is_indirectly_blocked w ↦ record {
        more = λ z x h. subst (λ v. is_listed v.items z x ≡ true) (sym w.waiting-is) (c.loop-edge.invariant.more z x h);
        so_far = waited_more k g c.args.node c.edges_at-edge-items.result.now c.loop-edge.edge-index _ c.loop-edge-test.true
            (is_listed c.loop-edge.waiting.items) (is_listed c.if-is_indirectly_blocked.waiting.items)
            (λ z x h. subst (λ v. is_listed v.items z x ≡ true) (sym w.waiting-is) h) c.loop-edge.invariant.so_far
            c.far_end-other.result c.far_end-other.ensures
            (λ stops. absurd (not_both stops (sym c.is_indirectly_blocked.ensures ∙ w.if-is_indirectly_blocked.false)));
      }
    ]

pub returns-clause-there : goal.returns-clause-there
returns-clause-there c =
    waited_all (theory_of c.args.k.now) (graph_of c.args.b.now) (is_listed c.loop-edge.waiting.items) c.args.node c.edges_at-edge-items.result.now
    c.loop-edge.edge-index c.edges_at-edge-items.ensures c.loop-edge-test.false c.loop-edge.invariant.so_far
