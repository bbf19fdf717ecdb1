use Rattle.std.proofs.Common.{◌≡◌, take}
use Rattle.chart_table.specs.Ends.{values_of_all}
use Rattle.chart_table.proofs.ends.values_of_all.Given as goal

abbrev pub invariant-loop-number : goal.invariant-loop-number
invariant-loop-number l = l.values ≡ values_of_all l.bound (take l.number-index l.numbers)
