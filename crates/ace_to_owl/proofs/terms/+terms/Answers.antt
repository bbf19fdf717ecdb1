use Rattle.std.proofs.Common.{List, ◌++◌, drop, ◌+◌, sym, ap, ◌∙◌, append_assoc}
use Rattle.wiki_base.proofs.ListLaws.{drop_slice_get}
use Rattle.logic_terms.specs.declared.structures.Thing.{Thing}
use Rattle.logic_terms.specs.Shown.{structure_of, condition_of, conditions_of}
use Rattle.logic_terms.specs.Structure.{Condition, conditions_from}
use Rattle.ace_to_owl.specs.Terms.{terms_in_all, terms_in_condition}
use Rattle.ace_to_owl.proofs.TermsLemmas.{terms_of_structure}
use Rattle.ace_to_owl.proofs.terms.+terms.Goals as goal

pub add_conditions-loop-place-preserved : goal.add_conditions-loop-place-preserved
add_conditions-loop-place-preserved t c =
    let cs : List Condition = conditions_of c.args.conditions.now in
    let bound = c.args.bound.now in
    let here : List Thing = terms_in_condition bound (condition_of c.get.result.now) in
    let rest : List Thing = terms_in_all bound (conditions_from (drop (c.loop-place.place + 1) cs)) in
    record {
      left =
          ap (λ ts. ts ++ rest) (c.in_ok-add_condition.ensures.found
          ∙ ap (λ b. c.loop-place.found ++ terms_in_condition b (condition_of c.get.result.now)) c.loop-place.invariant.kept)
          ∙ append_assoc c.loop-place.found here rest
          ∙ ap (λ ds. c.loop-place.found ++ terms_in_all bound (conditions_from ds))
          (sym (drop_slice_get cs c.loop-place.place (condition_of c.get.result.now) c.get.ensures.item))
          ∙ c.loop-place.invariant.left;
      kept = c.in_ok-add_condition.ensures.kept ∙ c.loop-place.invariant.kept;
    }

pub add_structure-returns-clause-found : goal.add_structure-returns-clause-found
add_structure-returns-clause-found t c =
    c.in_ok-add_conditions.ensures.found
    ∙ ap (λ b. c.args.found.now ++ terms_in_all b (conditions_from (conditions_of c.conditions.result.now))) c.in_ok-add_bound.ensures
    ∙ ap (λ ts. c.args.found.now ++ ts)
    (terms_of_structure c.args.bound.now (structure_of c.args.drs.now) c.as_slice.result.now (conditions_of c.conditions.result.now)
    (c.as_slice.ensures ∙ c.referents.ensures) c.conditions.ensures.list)
