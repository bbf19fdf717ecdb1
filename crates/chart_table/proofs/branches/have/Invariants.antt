use Rattle.std.proofs.Common.{◌≡◌, drop}
use Rattle.chart_table.specs.Branches.{having}
use Rattle.chart_table.proofs.branches.have.Given as goal

abbrev pub invariant-loop-feat : goal.invariant-loop-feat
invariant-loop-feat l = having l.vals (drop l.feat-index l.feats) l.all ≡ having l.vals l.feats l.fn.bounds
