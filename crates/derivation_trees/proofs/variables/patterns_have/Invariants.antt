use Rattle.std.proofs.Common.{◌≡◌, drop, map, []}
use Rattle.std.specs.List.{flat_map}
use Rattle.codeco_checked.specs.Numbering.{has}
use Rattle.codeco_checked.specs.Occurrences.{category_variables, whole}
use Rattle.derivation_trees.proofs.variables.patterns_have.Given as goal

abbrev pub invariant-loop-pattern : goal.invariant-loop-pattern
invariant-loop-pattern l =
    has (flat_map category_variables (map whole (drop l.pattern-index l.patterns))) l.variable
    ≡ has (flat_map category_variables (map whole l.patterns)) l.variable
