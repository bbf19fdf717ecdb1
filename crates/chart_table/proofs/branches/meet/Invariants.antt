use Rattle.std.proofs.Common.{◌≡◌, [], ◌∷◌, drop}
use Rattle.chart_table.specs.Branches.{meeting}
use Rattle.chart_table.proofs.branches.meet.Given as goal

abbrev pub invariant-loop-pair : goal.invariant-loop-pair
invariant-loop-pair l = meeting (drop l.pair-index l.vals) l.feats (l.bound ∷ []) ≡ meeting l.vals l.feats (l.fn.bound ∷ [])
