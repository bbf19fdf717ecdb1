use Rattle.std.proofs.Common.{◌≡◌, ◌≤◌, ◌+◌, ◌-◌, ◌++◌, drop, take, map, filter, length, not, []}
use Rattle.std.specs.List.{flat_map, list_all, range_with_len}
use Rattle.codeco_checked.specs.Numbering.{has}
use Rattle.codeco_checked.specs.Occurrences.{rule_variables}
use Rattle.derivation_trees.specs.Instances.{own_features, same_numbers, written_variables}
use Rattle.derivation_trees.proofs.variables.writes.Given as goal

abbrev pub invariant-loop-other : goal.invariant-loop-other
invariant-loop-other l =
    has (map (λ p. p.0) (drop l.other-index l.feats)) l.feature ≡ has (map (λ p. p.0) l.feats) l.feature
