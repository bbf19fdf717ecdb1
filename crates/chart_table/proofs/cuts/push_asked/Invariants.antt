use Rattle.std.specs.Prelude.{option_map}
use Rattle.chart_table.specs.Cuts.{HasHeads, OneBefore, MeetsOne}
use Rattle.chart_table.proofs.cuts.push_asked.Given as goal

abbrev pub invariant-loop-number : goal.invariant-loop-number
invariant-loop-number l = HasHeads l.trial.setting.now l.trial.rule.now (OneBefore l.asks (MeetsOne (option_map (λ e. e.now) l.next) l.bound) l.number)
    l.fn.cuts l.cuts
