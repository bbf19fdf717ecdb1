use Rattle.chart_table.proofs.SettleLemmas.{value_turn, values_done}
use Rattle.chart_table.proofs.cuts.+heads.Goals as goal

pub push_each-loop-value-preserved : goal.push_each-loop-value-preserved
push_each-loop-value-preserved t c =
    value_turn c.args.trial.now.setting.now c.args.trial.now.rule.now c.args.number c.args.bound.now c.args.feat.1 c.as_slice-value-items.result.now
    c.loop-value.value-index _
    c.in_ok-more.more c.args.cuts.now c.loop-value.cuts c.push_some.new.cuts c.loop-value-test.true c.in_ok-more.ensures c.loop-value.invariant
    c.in_ok-push_some.ensures

pub push_each-returns : goal.push_each-returns
push_each-returns t c =
    values_done c.args.trial.now.setting.now c.args.trial.now.rule.now c.args.trial.now.plan.now c.args.number c.args.bound.now c.args.feat
    c.in_ok-values.values
    c.as_slice-value-items.result.now c.loop-value.value-index c.args.cuts.now c.loop-value.cuts c.requires.plan c.requires.unknown c.in_ok-values.ensures
    c.as_slice-value-items.ensures c.loop-value-test.false c.loop-value.invariant
