use Rattle.std.proofs.Common.{◌++◌, ap, ◌∙◌}
use Rattle.chart_table.specs.Ends.{finished_one}
use Rattle.chart_table.proofs.Loops.{flat_more}
use Rattle.chart_table.proofs.ends.finished_all.Goals as goal

pub loop-bound-preserved : goal.loop-bound-preserved
loop-bound-preserved c =
    let one = finished_one c.args.setting.now c.args.rule.now c.args.before.now c.args.state.now c.args.plan.now.variables in
    flat_more one c.args.bounds.now c.loop-bound.bound-index c.bound-item.result c.loop-bound.ends c.push_some.new.out c.loop-bound-test.true c.bound-item.is
    c.loop-bound.invariant (c.in_ok-push_some.ensures ∙ ap (λ m. c.loop-bound.ends ++ m) (c.in_ok-end.ensures ∙ ap one c.as_slice.ensures))
