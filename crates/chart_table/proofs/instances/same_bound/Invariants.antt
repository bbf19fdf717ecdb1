use Rattle.std.proofs.Common.{◌≡◌, take}
use Rattle.chart_table.proofs.instances.same_bound.Given as goal

abbrev pub invariant-loop-place : goal.invariant-loop-place
invariant-loop-place l = take l.place l.values ≡ take l.place l.others
