use Rattle.std.proofs.Common.{◌≡◌, take, map, ◌++◌}
use Rattle.chart_table.specs.Steps.{introduced_state}
use Rattle.chart_table.proofs.steps.push_introduced.Given as goal

abbrev pub invariant-loop-bound : goal.invariant-loop-bound
invariant-loop-bound l = l.out ≡ l.fn.out ++ map (introduced_state l.name l.feats l.strong l.state) (take l.bound-index l.bounds)
