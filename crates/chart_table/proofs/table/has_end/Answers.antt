use Rattle.std.proofs.Common.{rules}
use Rattle.chart_table.proofs.TurnLemmas.{end_here}
use Rattle.chart_table.proofs.table.has_end.Goals as goal

pub returns-then-same_end : goal.returns-then-same_end
returns-then-same_end c =
    λ _. end_here c.args.ends.now c.loop-other.other-index c.args.end.now c.other-item.result c.loop-other-test.true c.other-item.is
    (c.same_end.ensures.0 (search rules))
