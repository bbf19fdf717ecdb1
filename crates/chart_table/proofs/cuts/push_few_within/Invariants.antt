use Rattle.chart_table.specs.Cuts.{HasHeads, OneBefore, MeetsCut}
use Rattle.chart_table.proofs.cuts.push_few_within.Given as goal

abbrev pub invariant-loop-cut : goal.invariant-loop-cut
invariant-loop-cut l = HasHeads l.trial.setting.now l.trial.rule.now (OneBefore l.within (MeetsCut l.category l.bound) l.cut-index) l.fn.cuts l.cuts
