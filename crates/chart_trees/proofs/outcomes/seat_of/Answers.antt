use Rattle.std.proofs.Common.{rules}
use Rattle.chart_trees.proofs.OutcomeLemmas.{holds_at, seat_at}
use Rattle.chart_trees.proofs.outcomes.seat_of.Goals as goal

pub returns-then-stands_for : goal.returns-then-stands_for
returns-then-stands_for c =
    holds_at c.args.outcomes.now c.loop-place.place c.index-outcomes-place.result c.args.new.now c.loop-place-test.true c.index-outcomes-place.is
    (c.stands_for.ensures.place (search rules)) (c.stands_for.ensures.tail (search rules)) (c.stands_for.ensures.code (search rules))

pub returns-then-stands_for-2 : goal.returns-then-stands_for-2
returns-then-stands_for-2 c =
    seat_at c.args.outcomes.now c.loop-place.place c.index-outcomes-place.result c.args.new.now c.loop-place-test.true c.index-outcomes-place.is
    (c.stands_for-in-loop-place.ensures.place (search rules)) (c.stands_for-in-loop-place.ensures.tail (search rules))
    (c.stands_for-in-loop-place.ensures.code (search rules))
