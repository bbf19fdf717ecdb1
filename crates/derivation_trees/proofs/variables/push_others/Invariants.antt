use Rattle.std.proofs.Common.{◌≡◌, ◌≤◌, ◌+◌, ◌-◌, ◌++◌, drop, take, map, filter, length, not, []}
use Rattle.std.specs.List.{flat_map, list_all, range_with_len}
use Rattle.codeco_checked.specs.Numbering.{has}
use Rattle.codeco_checked.specs.Occurrences.{rule_variables}
use Rattle.derivation_trees.specs.Instances.{own_features, same_numbers, written_variables}
use Rattle.derivation_trees.proofs.variables.push_others.Given as goal

abbrev pub invariant-loop-feature : goal.invariant-loop-feature
invariant-loop-feature l =
    l.own.items ≡ l.initial.own.items ++ filter (λ f. not (has (map (λ p. p.0) l.feats) f)) (take l.feature-index l.features)
