use Rattle.std.proofs.Common.{◌≡◌, ◌≤◌, ◌+◌, ◌-◌, ◌++◌, drop, take, map, filter, length, not, []}
use Rattle.std.specs.List.{flat_map, list_all, range_with_len}
use Rattle.codeco_checked.specs.Numbering.{has}
use Rattle.codeco_checked.specs.Occurrences.{rule_variables}
use Rattle.derivation_trees.specs.Instances.{own_features, same_numbers, written_variables}
use Rattle.derivation_trees.proofs.variables.written_variables.Given as goal

abbrev pub invariant-loop-variable : goal.invariant-loop-variable
invariant-loop-variable l =
    (l.variable ≤ 16) × (l.numbers.items ≡ filter (has (rule_variables l.rule)) (range_with_len 0 l.variable))
