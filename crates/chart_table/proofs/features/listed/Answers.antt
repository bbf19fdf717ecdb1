use Rattle.std.proofs.Common.{◌∙◌, arith}
use Rattle.chart_table.proofs.PlanLemmas.{listed_here}
use Rattle.chart_table.proofs.features.listed.Goals as goal

pub returns-then-one-name : goal.returns-then-one-name
returns-then-one-name c =
    listed_here c.args.known.now c.loop-one.one-index c.one-item.result c.args.name c.in_ok-copied.copied c.loop-one-test.true c.one-item.is (omega arith)
    (c.in_ok-copied.ensures ∙ c.as_slice.ensures)
