use Rattle.chart_table.proofs.SettleLemmas.{known_is, known_more, known_done}
use Rattle.chart_table.proofs.cuts.settles.Goals as goal

pub loop-feat-preserved : goal.loop-feat-preserved
loop-feat-preserved c = known_more c.as_slice-feats.result.now c.args.bound.now c.loop-feat.feat-index _ c.loop-feat-test.true c.loop-feat.invariant
    (known_is c.args.bound.now _ c.known_value.result c.known_value.ensures c.if-is_none.ensures)

pub returns : goal.returns
returns c =
    λ _. known_done c.args.rule.now c.as_slice-feats.result.now c.args.bound.now c.loop-feat.feat-index c.as_slice-feats.ensures c.loop-feat-test.false
    c.loop-feat.invariant
