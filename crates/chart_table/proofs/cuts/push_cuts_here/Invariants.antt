use Rattle.std.proofs.Common.{take}
use Rattle.std.specs.Prelude.{option_map}
use Rattle.chart_table.specs.Cuts.{HasHeads, Among, Halts}
use Rattle.chart_table.proofs.cuts.push_cuts_here.Given as goal

abbrev pub invariant-loop-state : goal.invariant-loop-state
invariant-loop-state l =
    HasHeads l.trial.setting.now l.trial.rule.now
    (λ j v. Among (Halts l.trial.aim.now (option_map (λ e. e.now) l.next) j v) (take l.state-index l.states)) l.fn.cuts l.cuts
