use Rattle.std.proofs.Common.{take}
use Rattle.chart_table.proofs.BranchLemmas.{KnownAll}
use Rattle.chart_table.proofs.cuts.settles.Given as goal

abbrev pub invariant-loop-feat : goal.invariant-loop-feat
invariant-loop-feat l = KnownAll (take l.feat-index l.feats) l.bound
