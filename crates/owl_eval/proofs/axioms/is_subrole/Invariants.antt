use Rattle.std.proofs.Common.{◌≡◌, true}
use Rattle.logic_terms.specs.Interpretation.{relates}
use Rattle.logic_terms.specs.Meaning.{implies, each_below}
use Rattle.owl_eval.proofs.axioms.is_subrole.Given as goal

abbrev pub invariant-loop-element : goal.invariant-loop-element
invariant-loop-element l = each_below l.element (λ x. each_below l.interp.size (λ y. implies (relates l.interp l.below x y) (relates l.interp l.above x y)))
    ≡ true
