use Rattle.std.proofs.Common.{take}
use Rattle.chart_table.specs.Instances.{HasStates}
use Rattle.chart_table.proofs.instances.push_states.Given as goal

abbrev pub invariant-loop-state : goal.invariant-loop-state
invariant-loop-state l = HasStates l.trial.setting.now l.trial.rule.now (take l.state-index l.states) l.fn.out l.out
