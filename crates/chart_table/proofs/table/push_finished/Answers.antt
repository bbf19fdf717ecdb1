use Rattle.chart_table.proofs.EndLemmas.{finished_none}
use Rattle.chart_table.proofs.TurnLemmas.{finished_turn, finished_done}
use Rattle.chart_table.proofs.table.push_finished.Goals as goal

pub loop-state-init : goal.loop-state-init
loop-state-init c = finished_none c.args.trial.now.setting.now c.args.trial.now.rule.now c.args.before.now c.args.out.now

pub loop-state-preserved : goal.loop-state-preserved
loop-state-preserved c =
    finished_turn c.args.trial.now.setting.now c.args.trial.now.rule.now c.args.before.now c.args.states.now c.loop-state.state-index c.state-item.result
    c.args.out.now
    c.loop-state.out c.push_state_ends.new.out c.loop-state-test.true c.state-item.is c.loop-state.invariant
    c.in_ok-push_state_ends.ensures

pub returns : goal.returns
returns c =
    finished_done c.args.trial.now.setting.now c.args.trial.now.rule.now c.args.before.now c.args.states.now c.loop-state.state-index c.args.out.now
    c.loop-state.out
    c.loop-state-test.false c.loop-state.invariant
