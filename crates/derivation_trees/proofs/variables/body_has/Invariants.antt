use Rattle.std.proofs.Common.{◌≡◌, drop, map, []}
use Rattle.std.specs.List.{flat_map}
use Rattle.codeco_checked.specs.Numbering.{has}
use Rattle.codeco_checked.specs.Occurrences.{element_variables, category_variables, term_variables, whole}
use Rattle.derivation_trees.proofs.variables.body_has.Given as goal

abbrev pub invariant-loop-element : goal.invariant-loop-element
invariant-loop-element l =
    has (flat_map element_variables (drop l.element-index l.body)) l.variable ≡ has (flat_map element_variables l.body) l.variable
