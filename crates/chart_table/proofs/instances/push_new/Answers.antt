use Rattle.chart_table.proofs.InstanceLemmas.{seen_same, push_more}
use Rattle.chart_table.proofs.instances.push_new.Goals as goal

pub returns-then-has_bound : goal.returns-then-has_bound
returns-then-has_bound c =
    seen_same c.args.out.now c.as_slice.result.now c.args.bound c.as_slice-2.result.now c.as_slice.ensures c.as_slice-2.ensures
    (c.has_bound.ensures c.if-has_bound.true)

pub returns-in_ok-push : goal.returns-in_ok-push
returns-in_ok-push c = push_more c.args.out.now c.push.new.self c.args.bound c.in_ok-push.ensures.ok
