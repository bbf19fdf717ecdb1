use Rattle.std.proofs.Common.{◌≡◌, take, ◌++◌}
use Rattle.chart_table.specs.Steps.{placed}
use Rattle.chart_table.proofs.steps.push_placed.Given as goal

abbrev pub invariant-loop-bound : goal.invariant-loop-bound
invariant-loop-bound l = l.out ≡ l.fn.out ++ placed l.place l.list (take l.bound-index l.bounds)
