use Rattle.std.proofs.Common.{◌≡◌, false, take}
use Rattle.std.specs.List.{list_any}
use Rattle.logic_terms.specs.Shown.{concept_of, concepts_of}
use Rattle.logic_terms.specs.Same.{same_concept}
use Rattle.logic_terms.proofs.expressions.Classes.has.Given as goal

abbrev pub invariant-loop-place : goal.invariant-loop-place
invariant-loop-place l = list_any (λ d. same_concept d (concept_of l.class)) (take l.place (concepts_of l.self)) ≡ false
