use Rattle.std.proofs.Common.{◌≡◌, ◌≤◌, ◌++◌, length, IfOk, sym, ap, ◌∙◌, subst, arith}
use Rattle.logic_terms.specs.Structure.{conditions_from, referents_in}
use Rattle.logic_terms.specs.Shown.{structure_of, condition_of, conditions_of}
use Rattle.logic_terms.specs.Free.{free_in_all}
use Rattle.drs_build.proofs.FreeLemmas.{free_in_is, here_free, later_free, none_free}
use Rattle.drs_build.proofs.free.+free.Goals as goal

pub free_in-returns : goal.free_in-returns
free_in-returns t c =
    let k = structure_of c.args.drs.now in
    let all : c.in_ok-all.all ≡ referents_in k ++ c.args.bound.now =
    c.in_ok-all.ensures ∙ ap (λ xs. xs ++ c.as_slice-2.result.now) (c.as_slice.ensures ∙ c.referents.ensures)
    ∙ ap (λ ys. referents_in k ++ ys) c.as_slice-2.ensures in
    subst (λ o. IfOk c.free_in_all.result (λ found. found ≡ o))
    (ap (λ b. free_in_all b (conditions_from (conditions_of c.conditions.result.now))) all
    ∙ ap (λ cs. free_in_all (referents_in k ++ c.args.bound.now) (conditions_from cs)) c.conditions.ensures.list ∙ free_in_is c.args.bound.now k)
    c.free_in_all.ensures

pub free_in_all-returns-in-Some : goal.free_in_all-returns-in-Some
free_in_all-returns-in-Some t c =
    sym (sym c.loop-place.invariant ∙ here_free c.args.bound.now (conditions_of c.args.conditions.now) c.loop-place.place (condition_of c.get.result.now)
    c.in-Some.referent c.get.ensures.item (sym c.in-Some.is ∙ c.in_ok-referent.ensures))

pub free_in_all-loop-place-preserved : goal.free_in_all-loop-place-preserved
free_in_all-loop-place-preserved t c =
    later_free c.args.bound.now (conditions_of c.args.conditions.now) c.loop-place.place (condition_of c.get.result.now) c.get.ensures.item
    (sym c.in_default.is ∙ c.in_ok-referent.ensures) ∙ c.loop-place.invariant

pub free_in_all-returns : goal.free_in_all-returns
free_in_all-returns t c =
    let end : length (conditions_of c.args.conditions.now) ≤ c.loop-place.place = omega arith in
    sym (sym c.loop-place.invariant ∙ none_free c.args.bound.now (conditions_of c.args.conditions.now) c.loop-place.place end)
