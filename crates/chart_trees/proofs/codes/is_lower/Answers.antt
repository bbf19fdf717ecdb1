use Rattle.chart_trees.proofs.OrderLemmas.{lower_tested}
use Rattle.chart_trees.proofs.codes.is_lower.Goals as goal

pub returns-then-symbol-other : goal.returns-then-symbol-other
returns-then-symbol-other c =
    λ t. lower_tested c.loop-place.place c.args.one.now c.args.other.now c.loop-place.invariant c.loop-place-test.true c.if-place-other.false t
