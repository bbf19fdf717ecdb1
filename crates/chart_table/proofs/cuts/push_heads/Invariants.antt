use Rattle.std.proofs.Common.{take}
use Rattle.chart_table.specs.Cuts.{HasHeads, IsOf}
use Rattle.chart_table.proofs.cuts.push_heads.Given as goal

abbrev pub invariant-loop-bound : goal.invariant-loop-bound
invariant-loop-bound l = HasHeads l.trial.setting.now l.trial.rule.now (IsOf l.number (take l.bound-index l.bounds)) l.fn.cuts l.cuts
