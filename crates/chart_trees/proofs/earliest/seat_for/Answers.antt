use Rattle.chart_trees.proofs.EarliestLemmas.{seat_taken, seat_at}
use Rattle.chart_trees.proofs.earliest.seat_for.Goals as goal

pub returns-then-branch : goal.returns-then-branch
returns-then-branch c =
    seat_taken c.args.paths.now c.loop-place.place c.index-paths-place.result c.args.new.now c.loop-place-test.true c.index-paths-place.is
    (c.in_ok-is_no_later.ensures c.if-branch.true)

pub returns-then-branch-2 : goal.returns-then-branch-2
returns-then-branch-2 c =
    seat_at c.args.paths.now c.loop-place.place c.index-paths-place.result c.args.new.now c.loop-place-test.true c.index-paths-place.is
    (c.in_ok-is_no_later-2.ensures c.if-branch-2.true)
