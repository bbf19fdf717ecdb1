use Rattle.std.specs.Prelude.{All}
use Rattle.chart_table.specs.Cuts.{HasHeads, OneBefore, MeetsCut, IsTold}
use Rattle.chart_table.proofs.told.push_many_within.Given as goal

abbrev pub invariant-loop-cut : goal.invariant-loop-cut
invariant-loop-cut l =
    HasHeads l.trial.setting.now l.trial.rule.now (OneBefore l.within (MeetsCut l.category l.bound) l.cut-index) l.fn.cuts l.cuts
    × All (IsTold l.trial.setting.now l.trial.rule.now l.category l.bound) l.told
