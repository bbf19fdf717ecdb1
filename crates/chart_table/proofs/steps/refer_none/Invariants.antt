use Rattle.std.proofs.Common.{◌≡◌, take}
use Rattle.chart_table.specs.Steps.{refer_none}
use Rattle.chart_table.proofs.steps.refer_none.Given as goal

abbrev pub invariant-loop-bound : goal.invariant-loop-bound
invariant-loop-bound l = l.out ≡ refer_none l.patterns l.list (take l.bound-index l.bounds)
