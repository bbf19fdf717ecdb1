use Rattle.std.proofs.Common.{◌≡◌, drop, map, []}
use Rattle.std.specs.List.{flat_map}
use Rattle.codeco_checked.specs.Numbering.{has}
use Rattle.codeco_checked.specs.Occurrences.{element_variables, category_variables, term_variables, whole}
use Rattle.derivation_trees.proofs.variables.taken_has.Given as goal

abbrev pub invariant-loop-other : goal.invariant-loop-other
invariant-loop-other l =
    has (map (λ t. t.1) (drop l.other-index l.taken)) l.variable ≡ has (map (λ t. t.1) l.taken) l.variable
