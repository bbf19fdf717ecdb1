use Rattle.std.proofs.Common.{◌≡◌, take, map, ◌++◌}
use Rattle.chart_table.specs.Branches.{marked}
use Rattle.chart_table.proofs.choices.push_taken.Given as goal

abbrev pub invariant-loop-feature : goal.invariant-loop-feature
invariant-loop-feature l = l.out ≡ l.fn.out ++ map marked (take l.feature-index l.taken)
