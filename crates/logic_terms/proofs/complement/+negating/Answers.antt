use Rattle.std.proofs.Common.{◌≤◌, List, length, map, sym, ap, ◌∙◌, arith}
use Rattle.std.proofs.lemmas.List.{take_all}
use Rattle.logic_terms.specs.Shown.{concept_of, concepts_of}
use Rattle.logic_terms.specs.Concept.{Concept, concepts_from}
use Rattle.logic_terms.specs.Complement.{complement, normal_form}
use Rattle.logic_terms.proofs.ComplementLemmas.{normal_forms_from, complements_from}
use Rattle.logic_terms.proofs.Taken.{made_more}
use Rattle.logic_terms.proofs.complement.+negating.Goals as goal

pub complements_of-loop-place-preserved : goal.complements_of-loop-place-preserved
complements_of-loop-place-preserved t c =
    c.in_ok-push.ensures.ok
    ∙ made_more complement (concepts_of c.args.members.now) c.loop-place.place (concept_of c.get.result.now) (concepts_of c.loop-place.negative)
    (concept_of c.in_ok-complement_of.field-0) c.get.ensures.item c.loop-place.invariant c.in_ok-complement_of.ensures

pub complements_of-returns : goal.complements_of-returns
complements_of-returns t c =
    let members : List Concept = concepts_of c.args.members.now in
    let past : length members ≤ c.loop-place.place = omega (arith, c.len-place-end.ensures, c.loop-place-test.false) in
    ap concepts_from (c.loop-place.invariant ∙ ap (map complement) (take_all c.loop-place.place members past))
    ∙ sym (complements_from members)

pub normal_forms_of-loop-place-preserved : goal.normal_forms_of-loop-place-preserved
normal_forms_of-loop-place-preserved t c =
    c.in_ok-push.ensures.ok
    ∙ made_more normal_form (concepts_of c.args.members.now) c.loop-place.place (concept_of c.get.result.now) (concepts_of c.loop-place.normal)
    (concept_of c.in_ok-normal_form_of.field-0) c.get.ensures.item c.loop-place.invariant c.in_ok-normal_form_of.ensures

pub normal_forms_of-returns : goal.normal_forms_of-returns
normal_forms_of-returns t c =
    let members : List Concept = concepts_of c.args.members.now in
    let past : length members ≤ c.loop-place.place = omega (arith, c.len-place-end.ensures, c.loop-place-test.false) in
    ap concepts_from (c.loop-place.invariant ∙ ap (map normal_form) (take_all c.loop-place.place members past))
    ∙ sym (normal_forms_from members)
