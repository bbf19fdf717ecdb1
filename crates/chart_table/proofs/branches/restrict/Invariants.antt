use Rattle.std.proofs.Common.{◌≡◌, take}
use Rattle.chart_table.specs.Branches.{restricted}
use Rattle.chart_table.proofs.branches.restrict.Given as goal

abbrev pub invariant-loop-bound : goal.invariant-loop-bound
invariant-loop-bound l = l.out ≡ restricted l.term l.values (take l.bound-index l.bounds)
