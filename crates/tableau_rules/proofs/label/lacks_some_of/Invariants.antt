use Rattle.std.proofs.Common.{◌≡◌, false, take, map}
use Rattle.std.specs.Prelude.{not}
use Rattle.std.specs.List.{list_any}
use Rattle.logic_terms.specs.Same.{has_concept}
use Rattle.logic_terms.specs.Shown.{concept_of}
use Rattle.tableau_rules.proofs.label.lacks_some_of.Given as goal

abbrev pub invariant-loop-class : goal.invariant-loop-class
invariant-loop-class l = list_any (λ d. not (has_concept (map concept_of l.label) d)) (take l.class-index (map concept_of l.classes)) ≡ false
