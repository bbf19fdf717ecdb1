use Rattle.std.proofs.Common.{subst}
use Rattle.chart_trees.specs.Earliest.{IsSeat}
use Rattle.chart_trees.proofs.EarliestLemmas.{put_taken, put_at, put_free}
use Rattle.chart_trees.proofs.earliest.put.Goals as goal

pub returns-in-Taken : goal.returns-in-Taken
returns-in-Taken c =
    put_taken c.args.new c.args.out.now c.as_slice.result.now c.as_slice.ensures
    (subst (IsSeat c.as_slice.result.now c.args.new) c.in-Taken.is c.in_ok-seat_for.ensures)

pub returns-in-At : goal.returns-in-At
returns-in-At c =
    put_at c.args.new c.args.out.now c.as_slice.result.now c.set.new.self c.in-At.place c.as_slice.ensures c.set.ensures
    (subst (IsSeat c.as_slice.result.now c.args.new) c.in-At.is c.in_ok-seat_for.ensures)

pub returns-in_ok-push-in-Free : goal.returns-in_ok-push-in-Free
returns-in_ok-push-in-Free c = put_free c.args.new c.args.out.now c.push.new.self c.in_ok-push-in-Free.ensures.ok
