use Rattle.std.proofs.Common.{sym, ◌∙◌}
use Rattle.logic_terms.specs.Shown.{concept_of, concepts_of}
use Rattle.logic_terms.specs.Meaning.{is_in}
use Rattle.logic_terms.proofs.Places.{each_more, each_fails, some_more, some_passes}
use Rattle.owl_eval.proofs.Members.{in_and, in_or, in_some, in_all, in_value}
use Rattle.owl_eval.proofs.membership.+membership.Goals as goal

pub is_member-returns-in-And : goal.is_member-returns-in-And
is_member-returns-in-And t c =
    in_and c.args.interp.now c.args.element c.args.class.now c.in-And.members _ c.is_member_of_each.ensures c.in-And.is

pub is_member-returns-in-Or : goal.is_member-returns-in-Or
is_member-returns-in-Or t c =
    in_or c.args.interp.now c.args.element c.args.class.now c.in-Or.members _ c.is_member_of_some.ensures c.in-Or.is

pub is_member-returns-in-Some : goal.is_member-returns-in-Some
is_member-returns-in-Some t c =
    in_some c.args.interp.now c.args.element c.args.class.now c.in-Some.role c.in-Some.inner c.deref-in-Some.result.now c.successors.result.now _
    c.some_end_is_member.ensures c.successors.ensures.some c.deref-in-Some.ensures c.in-Some.is

pub is_member-returns-in-All : goal.is_member-returns-in-All
is_member-returns-in-All t c =
    in_all c.args.interp.now c.args.element c.args.class.now c.in-All.role c.in-All.inner c.deref-in-All.result.now c.successors-in-All.result.now _
    c.each_end_is_member.ensures c.successors-in-All.ensures.each c.deref-in-All.ensures c.in-All.is

pub is_member-returns-in-Value : goal.is_member-returns-in-Value
is_member-returns-in-Value t c =
    in_value c.args.interp.now c.args.element c.args.class.now c.in-Value.role c.in-Value.name c.element.result _ c.relates.ensures c.element.ensures
    c.in-Value.is

pub is_member_of_each-returns-then-not-is_member : goal.is_member_of_each-returns-then-not-is_member
is_member_of_each-returns-then-not-is_member t c =
    sym (each_fails (λ k. is_in c.args.interp.now k c.args.element) (concepts_of c.args.classes.now) c.loop-place.place (concept_of c.get.result.now)
    c.get.ensures.item (sym c.is_member.ensures ∙ c.if-not-is_member.true))

pub is_member_of_each-loop-place-preserved : goal.is_member_of_each-loop-place-preserved
is_member_of_each-loop-place-preserved t c =
    each_more (λ k. is_in c.args.interp.now k c.args.element) (concepts_of c.args.classes.now) c.loop-place.place (concept_of c.get.result.now)
    c.get.ensures.item c.loop-place.invariant (sym c.is_member.ensures ∙ c.if-not-is_member.false)

pub is_member_of_some-returns-then-is_member : goal.is_member_of_some-returns-then-is_member
is_member_of_some-returns-then-is_member t c =
    sym (some_passes (λ k. is_in c.args.interp.now k c.args.element) (concepts_of c.args.classes.now) c.loop-place.place (concept_of c.get.result.now)
    c.get.ensures.item (sym c.is_member.ensures ∙ c.if-is_member.true))

pub is_member_of_some-loop-place-preserved : goal.is_member_of_some-loop-place-preserved
is_member_of_some-loop-place-preserved t c =
    some_more (λ k. is_in c.args.interp.now k c.args.element) (concepts_of c.args.classes.now) c.loop-place.place (concept_of c.get.result.now)
    c.get.ensures.item c.loop-place.invariant (sym c.is_member.ensures ∙ c.if-is_member.false)
