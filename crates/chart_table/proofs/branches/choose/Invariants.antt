use Rattle.std.proofs.Common.{◌≡◌, take}
use Rattle.std.specs.List.{flat_map}
use Rattle.chart_table.specs.Branches.{chosen_for}
use Rattle.chart_table.proofs.branches.choose.Given as goal

abbrev pub invariant-loop-bound : goal.invariant-loop-bound
invariant-loop-bound l = l.out ≡ flat_map (chosen_for l.term l.values) (take l.bound-index l.bounds)
