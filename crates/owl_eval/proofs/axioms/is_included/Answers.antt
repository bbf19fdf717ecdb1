use Rattle.std.proofs.Common.{◌≡◌, ◌<◌, Bool, true, false, sym, ap, ◌∙◌, arith}
use Rattle.logic_terms.specs.Shown.{concept_of}
use Rattle.logic_terms.specs.Meaning.{implies, is_in}
use Rattle.logic_terms.proofs.Places.{each_below_fails}
use Rattle.owl_eval.proofs.axioms.is_included.Goals as goal

no_implication : (a b : Bool) → a ≡ true → b ≡ false → implies a b ≡ false
no_implication a b e f = ap (λ x. implies x b) e ∙ ap (implies true) f

pub returns-then-not-in_class : goal.returns-then-not-in_class
returns-then-not-in_class c =
    let i = c.args.interp.now in
    let x = c.loop-element.element in
    let lt : x < i.size = omega (arith, c.loop-element-test.true, c.size-element-end.ensures.size) in
    sym (each_below_fails (λ y. implies (is_in i (concept_of c.args.below.now) y) (is_in i (concept_of c.args.above.now) y)) x i.size lt
    (no_implication _ _ (sym c.in_class.ensures.exact ∙ c.if-in_class.true) (sym c.in_class-then-in_class.ensures.exact ∙ c.if-not-in_class.true)))
