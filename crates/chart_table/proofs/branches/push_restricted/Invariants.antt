use Rattle.std.proofs.Common.{◌≡◌, take, ◌++◌}
use Rattle.std.specs.List.{filter_map}
use Rattle.chart_table.specs.Branches.{bound_term}
use Rattle.chart_table.proofs.branches.push_restricted.Given as goal

abbrev pub invariant-loop-value : goal.invariant-loop-value
invariant-loop-value l = l.out ≡ l.fn.out ++ filter_map (bound_term l.bound l.term) (take l.value-index l.values)
