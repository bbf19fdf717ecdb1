use Rattle.std.proofs.Common.{◌≡◌, drop, map, []}
use Rattle.std.specs.List.{flat_map}
use Rattle.codeco_checked.specs.Numbering.{has}
use Rattle.codeco_checked.specs.Occurrences.{element_variables, category_variables, term_variables, whole}
use Rattle.derivation_trees.proofs.variables.feats_have.Given as goal

abbrev pub invariant-loop-term : goal.invariant-loop-term
invariant-loop-term l =
    has (flat_map (λ f. term_variables f.1) (drop l.term-index l.feats)) l.variable ≡ has (flat_map (λ f. term_variables f.1) l.feats) l.variable
