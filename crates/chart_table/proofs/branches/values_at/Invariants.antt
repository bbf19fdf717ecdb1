use Rattle.std.proofs.Common.{◌≡◌, take}
use Rattle.chart_table.specs.Branches.{values_at}
use Rattle.chart_table.proofs.branches.values_at.Given as goal

abbrev pub invariant-loop-other : goal.invariant-loop-other
invariant-loop-other l = l.out ≡ values_at (take l.other-index l.vals) l.feature
