use Rattle.std.proofs.Common.{◌≡◌, true}
use Rattle.logic_terms.specs.Shown.{concept_of}
use Rattle.logic_terms.specs.Meaning.{implies, each_below, is_in}
use Rattle.owl_eval.proofs.axioms.is_included.Given as goal

abbrev pub invariant-loop-element : goal.invariant-loop-element
invariant-loop-element l = each_below l.element (λ x. implies (is_in l.interp (concept_of l.below) x) (is_in l.interp (concept_of l.above) x)) ≡ true
