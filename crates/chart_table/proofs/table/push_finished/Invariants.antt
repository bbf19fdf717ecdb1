use Rattle.std.proofs.Common.{take}
use Rattle.chart_table.specs.Ends.{HasFinished}
use Rattle.chart_table.proofs.table.push_finished.Given as goal

abbrev pub invariant-loop-state : goal.invariant-loop-state
invariant-loop-state l = HasFinished l.trial.setting.now l.trial.rule.now l.before (take l.state-index l.states) l.fn.out l.out
