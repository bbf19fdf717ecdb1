use Rattle.std.proofs.Common.{◌≡◌, take}
use Rattle.chart_table.specs.Branches.{known_features}
use Rattle.chart_table.proofs.branches.known_features.Given as goal

abbrev pub invariant-loop-feat : goal.invariant-loop-feat
invariant-loop-feat l = l.out ≡ known_features l.bound (take l.feat-index l.feats)
