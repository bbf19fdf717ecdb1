use Rattle.std.proofs.Common.{◌++◌, ap, ◌∙◌}
use Rattle.chart_table.specs.Steps.{refer_none_one}
use Rattle.chart_table.proofs.Loops.{flat_more}
use Rattle.chart_table.proofs.steps.refer_none.Goals as goal

pub loop-bound-preserved : goal.loop-bound-preserved
loop-bound-preserved c =
    flat_more (refer_none_one c.args.patterns.now c.args.list.now) c.args.bounds.now c.loop-bound.bound-index c.bound-item.result c.loop-bound.out
    c.append.new.self c.loop-bound-test.true c.bound-item.is c.loop-bound.invariant
    (c.in_ok-append.ensures.ok ∙ ap (λ m. c.loop-bound.out ++ m)
    (c.in_ok-more.ensures ∙ ap (refer_none_one c.args.patterns.now c.args.list.now) c.as_slice.ensures))
