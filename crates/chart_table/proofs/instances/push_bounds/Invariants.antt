use Rattle.std.proofs.Common.{map, take}
use Rattle.chart_table.specs.Ends.{values_of_all}
use Rattle.chart_table.specs.Instances.{HasMore}
use Rattle.chart_table.proofs.instances.push_bounds.Given as goal

abbrev pub invariant-loop-bound : goal.invariant-loop-bound
invariant-loop-bound l = HasMore l.fn.out l.out (map (λ b. values_of_all b l.numbers) (take l.bound-index l.bounds))
