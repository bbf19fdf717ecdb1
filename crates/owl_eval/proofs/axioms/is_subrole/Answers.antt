use Rattle.std.proofs.Common.{◌≡◌, ◌<◌, sym, ◌∙◌, arith}
use Rattle.logic_terms.specs.Interpretation.{relates}
use Rattle.logic_terms.specs.Meaning.{implies, each_below}
use Rattle.logic_terms.proofs.Places.{each_below_more, each_below_fails}
use Rattle.owl_eval.proofs.axioms.is_subrole.Goals as goal
use Rattle.owl_eval.proofs.axioms.is_subrole.Goals.{After-each_end_relates}

-- what the call tells of the element's successors
at_element : (c : After-each_end_relates)
    → c.each_end_relates.result ≡ each_below c.args.interp.now.size
    (λ y. implies (relates c.args.interp.now c.args.below c.loop-element.element y) (relates c.args.interp.now c.args.above c.loop-element.element y))
at_element c = c.each_end_relates.ensures ∙ c.successors.ensures.each (λ y. relates c.args.interp.now c.args.above c.loop-element.element y)

pub returns-then-not-each_end_relates : goal.returns-then-not-each_end_relates
returns-then-not-each_end_relates c =
    let i = c.args.interp.now in
    let x = c.loop-element.element in
    let lt : x < i.size = omega (arith, c.loop-element-test.true, c.size-element-end.ensures.size) in
    sym (each_below_fails (λ z. each_below i.size (λ y. implies (relates i c.args.below z y) (relates i c.args.above z y))) x i.size lt
    (sym (at_element (goal.at.returns-then-not-each_end_relates c).After-each_end_relates) ∙ c.if-not-each_end_relates.true))

pub loop-element-preserved : goal.loop-element-preserved
loop-element-preserved c =
    let i = c.args.interp.now in
    let x = c.loop-element.element in
    each_below_more (λ z. each_below i.size (λ y. implies (relates i c.args.below z y) (relates i c.args.above z y))) x c.loop-element.invariant
    (sym (at_element (goal.at.loop-element-preserved c).After-each_end_relates) ∙ c.if-not-each_end_relates.false)
