use Rattle.std.proofs.Common.{arith}
use Rattle.chart_table.specs.Cuts.{MeetsCut}
use Rattle.chart_table.proofs.HeadLemmas.{before_none, before_turn, before_done}
use Rattle.chart_table.proofs.cuts.push_few_within.Goals as goal

pub loop-cut-init : goal.loop-cut-init
loop-cut-init c = before_none c.args.trial.now.setting.now c.args.trial.now.rule.now c.args.within.now (MeetsCut c.args.category.now c.args.bound.now)
    c.args.cuts.now

pub loop-cut-preserved : goal.loop-cut-preserved
loop-cut-preserved c =
    before_turn c.args.trial.now.setting.now c.args.trial.now.rule.now c.args.within.now (MeetsCut c.args.category.now c.args.bound.now)
    c.loop-cut.cut-index c.cut-item.result
    c.args.cuts.now c.loop-cut.cuts c.push_cut_within.new.cuts c.loop-cut-test.true c.cut-item.is c.loop-cut.invariant c.in_ok-push_cut_within.ensures

pub returns : goal.returns
returns c =
    before_done c.args.trial.now.setting.now c.args.trial.now.rule.now c.args.within.now (MeetsCut c.args.category.now c.args.bound.now)
    c.loop-cut.cut-index c.args.cuts.now
    c.loop-cut.cuts c.loop-cut-test.false (omega arith) c.loop-cut.invariant
