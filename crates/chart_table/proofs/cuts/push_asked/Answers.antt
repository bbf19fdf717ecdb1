use Rattle.std.proofs.Common.{arith}
use Rattle.std.specs.Prelude.{option_map}
use Rattle.chart_table.specs.Cuts.{MeetsOne}
use Rattle.chart_table.proofs.HeadLemmas.{before_none, before_turn, before_done}
use Rattle.chart_table.proofs.cuts.push_asked.Goals as goal

pub loop-number-init : goal.loop-number-init
loop-number-init c = before_none c.args.trial.now.setting.now c.args.trial.now.rule.now c.args.asks.now
    (MeetsOne (option_map (λ e. e.now) c.args.next) c.args.bound.now)
    c.args.cuts.now

pub loop-number-preserved : goal.loop-number-preserved
loop-number-preserved c =
    before_turn c.args.trial.now.setting.now c.args.trial.now.rule.now c.args.asks.now (MeetsOne (option_map (λ e. e.now) c.args.next) c.args.bound.now)
    c.loop-number.number
    c.index-asks-number.result c.args.cuts.now c.loop-number.cuts c.push_met.new.cuts c.loop-number-test.true c.index-asks-number.is c.loop-number.invariant
    c.in_ok-push_met.ensures

pub returns : goal.returns
returns c =
    before_done c.args.trial.now.setting.now c.args.trial.now.rule.now c.args.asks.now (MeetsOne (option_map (λ e. e.now) c.args.next) c.args.bound.now)
    c.loop-number.number
    c.args.cuts.now c.loop-number.cuts c.loop-number-test.false (omega arith) c.loop-number.invariant
