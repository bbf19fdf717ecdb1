use Rattle.std.proofs.Common.{◌≡◌, List, take}
use Rattle.std.specs.List.{flat_map}
use Rattle.codeco_terms.specs.declared.values.Value.{Value}
use Rattle.chart_table.specs.Branches.{chosen_for}
use Rattle.chart_table.proofs.branches.all_know.Given as goal

abbrev pub invariant-loop-bound : goal.invariant-loop-bound
invariant-loop-bound l = (values : List Value) → flat_map (chosen_for l.term values) (take l.bound-index l.bounds) ≡ take l.bound-index l.bounds
