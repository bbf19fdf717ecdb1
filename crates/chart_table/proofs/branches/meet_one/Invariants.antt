use Rattle.std.proofs.Common.{◌≡◌, [], ◌∷◌, drop}
use Rattle.chart_table.specs.Branches.{meeting_one}
use Rattle.chart_table.proofs.branches.meet_one.Given as goal

abbrev pub invariant-loop-feat : goal.invariant-loop-feat
invariant-loop-feat l = meeting_one l.pair (drop l.feat-index l.feats) (l.bound ∷ []) ≡ meeting_one l.pair l.feats (l.fn.bound ∷ [])
