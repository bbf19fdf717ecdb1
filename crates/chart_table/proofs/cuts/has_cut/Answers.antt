use Rattle.chart_table.proofs.HeadLemmas.{cut_there}
use Rattle.chart_table.proofs.cuts.has_cut.Goals as goal

pub returns-then-is_cut : goal.returns-then-is_cut
returns-then-is_cut c =
    λ _. cut_there c.args.cuts.now c.loop-cut.cut-index c.cut-item.result c.args.number c.args.values.now c.loop-cut-test.true c.cut-item.is
    (c.is_cut.ensures.ask c.if-is_cut.true) (c.is_cut.ensures.values c.if-is_cut.true)
