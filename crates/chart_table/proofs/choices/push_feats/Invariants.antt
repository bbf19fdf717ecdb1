use Rattle.std.proofs.Common.{◌≡◌, take, ◌++◌}
use Rattle.chart_table.proofs.choices.push_feats.Given as goal

abbrev pub invariant-loop-feat : goal.invariant-loop-feat
invariant-loop-feat l = l.out ≡ l.fn.out ++ take l.feat-index l.feats
