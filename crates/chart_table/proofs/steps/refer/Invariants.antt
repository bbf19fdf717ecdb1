use Rattle.std.proofs.Common.{◌≡◌, take}
use Rattle.chart_table.specs.Steps.{refer}
use Rattle.chart_table.proofs.steps.refer.Given as goal

abbrev pub invariant-loop-bound : goal.invariant-loop-bound
invariant-loop-bound l = l.out ≡ refer l.positive l.negative l.list (take l.bound-index l.bounds)
