use Rattle.std.proofs.Common.{ap, ◌∙◌}
use Rattle.chart_table.specs.Ends.{values_of_all}
use Rattle.chart_table.proofs.InstanceLemmas.{none_more, bounds_turn, bounds_done}
use Rattle.chart_table.proofs.instances.push_bounds.Goals as goal

pub loop-bound-init : goal.loop-bound-init
loop-bound-init c = none_more c.args.out.now

pub loop-bound-preserved : goal.loop-bound-preserved
loop-bound-preserved c =
    bounds_turn (λ b. values_of_all b c.args.numbers.now) c.args.bounds.now c.loop-bound.bound-index c.bound-item.result c.in_ok-values.values c.args.out.now
    c.loop-bound.out c.push_new.new.out c.loop-bound-test.true c.bound-item.is
    (c.in_ok-values.ensures ∙ ap (λ b. values_of_all b c.args.numbers.now) c.as_slice.ensures) c.loop-bound.invariant c.in_ok-push_new.ensures

pub returns : goal.returns
returns c =
    bounds_done (λ b. values_of_all b c.args.numbers.now) c.args.bounds.now c.loop-bound.bound-index c.args.out.now c.loop-bound.out c.loop-bound-test.false
    c.loop-bound.invariant
