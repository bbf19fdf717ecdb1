use Rattle.std.proofs.Common.{length, ap, ◌∙◌, ◌++◌}
use Rattle.derivation_trees.specs.Instances.{own_features}
use Rattle.chart_table.specs.Features.{element_features}
use Rattle.chart_table.proofs.Loops.{flat_more}
use Rattle.chart_table.proofs.PlanLemmas.{own_mine, mapped_more}
use Rattle.chart_table.proofs.features.owned_by.Goals as goal

pub loop-element-preserved : goal.loop-element-preserved
loop-element-preserved c =
    let g = c.args.grammar.now in
    let e = c.element-item.result in
    let mine = own_mine g e c.in_ok-found.found c.as_slice.result.now c.in_ok-mine.mine c.in_ok-found.ensures.features c.as_slice.ensures
    c.in_ok-mine.ensures in
    record {
      known = c.in_ok-found.ensures.known;
      features = mapped_more (element_features g) c.args.body.now c.loop-element.element-index e c.in_ok-found.found c.loop-element.all
          c.push-in-loop-element.new.self c.loop-element-test.true c.element-item.is c.in_ok-found.ensures.features c.loop-element.invariant.features
          c.in_ok-push-2.ensures.ok;
      own = flat_more (own_features g) c.args.body.now c.loop-element.element-index e c.loop-element.own c.append.new.self c.loop-element-test.true
          c.element-item.is c.loop-element.invariant.own (c.in_ok-append.ensures.ok ∙ ap (λ m. c.loop-element.own ++ m) mine);
      counts = mapped_more (λ x. length (own_features g x)) c.args.body.now c.loop-element.element-index e c.len.result c.loop-element.counts c.push.new.self
          c.loop-element-test.true c.element-item.is (c.len.ensures ∙ ap length mine) c.loop-element.invariant.counts c.in_ok-push.ensures.ok;
    }
