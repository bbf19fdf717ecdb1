use Rattle.chart_table.proofs.InstanceLemmas.{none_states, states_turn, states_done}
use Rattle.chart_table.proofs.instances.push_states.Goals as goal

pub loop-state-init : goal.loop-state-init
loop-state-init c = none_states c.args.trial.now.setting.now c.args.trial.now.rule.now c.args.out.now

pub loop-state-preserved : goal.loop-state-preserved
loop-state-preserved c =
    states_turn c.args.trial.now.setting.now c.args.trial.now.rule.now c.args.states.now c.loop-state.state-index c.state-item.result c.args.out.now
    c.loop-state.out
    c.push_state.new.out c.loop-state-test.true c.state-item.is c.loop-state.invariant c.in_ok-push_state.ensures

pub returns : goal.returns
returns c =
    states_done c.args.trial.now.setting.now c.args.trial.now.rule.now c.args.states.now c.loop-state.state-index c.args.out.now c.loop-state.out
    c.loop-state-test.false
    c.loop-state.invariant
