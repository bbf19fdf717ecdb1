use Rattle.std.proofs.Common.{◌≤◌, length, sym, ◌∙◌, arith}
use Rattle.logic_terms.specs.Shown.{concept_of, concepts_of}
use Rattle.logic_terms.specs.Complement.{complement, complements, normal_form, normal_forms}
use Rattle.logic_terms.proofs.ComplementLemmas.{complements_from, normal_forms_from}
use Rattle.logic_terms.proofs.SameLemmas.{made_same-length, made_same-step, made_same-differ, made_same-none, made_same-begin}
use Rattle.logic_terms.proofs.expressions.+opposing.Goals as goal

pub Classes::are_complements_of-returns-then-len : goal.Classes::are_complements_of-returns-then-len
Classes::are_complements_of-returns-then-len t c =
    sym (made_same-length complement complements complements_from (concepts_of c.args.self.now) (concepts_of c.args.classes.now)
    (λ e. c.if-len.true (c.len.ensures ∙ (e ∙ sym c.len-2.ensures))))

pub Classes::are_complements_of-loop-place-init : goal.Classes::are_complements_of-loop-place-init
Classes::are_complements_of-loop-place-init t c = record {
  long = omega (arith, c.len.ensures, c.len-2.ensures, c.if-len.false);
  left_decides = made_same-begin complement complements complements_from (concepts_of c.args.self.now) (concepts_of c.args.classes.now);
}

pub Classes::are_complements_of-returns-then-not-is_complement_of : goal.Classes::are_complements_of-returns-then-not-is_complement_of
Classes::are_complements_of-returns-then-not-is_complement_of t c =
    sym (made_same-differ complement complements complements_from (concepts_of c.args.self.now) (concepts_of c.args.classes.now) c.loop-place.place
    (concept_of c.get.result.now) (concept_of c.get-in-loop-place.result.now) _ c.get.ensures.item c.get-in-loop-place.ensures.item
    c.loop-place.invariant.left_decides (sym c.is_complement_of.ensures ∙ c.if-not-is_complement_of.true))

pub Classes::are_complements_of-loop-place-preserved : goal.Classes::are_complements_of-loop-place-preserved
Classes::are_complements_of-loop-place-preserved t c = record {
  long = c.loop-place.invariant.long;
  left_decides = made_same-step complement complements complements_from (concepts_of c.args.self.now) (concepts_of c.args.classes.now) c.loop-place.place
      (concept_of c.get.result.now) (concept_of c.get-in-loop-place.result.now) _ c.get.ensures.item c.get-in-loop-place.ensures.item
      c.loop-place.invariant.left_decides (sym c.is_complement_of.ensures ∙ c.if-not-is_complement_of.false);
}

pub Classes::are_complements_of-returns : goal.Classes::are_complements_of-returns
Classes::are_complements_of-returns t c =
    let past : length (concepts_of c.args.classes.now) ≤ c.loop-place.place = omega (arith, c.len-place-end.ensures, c.loop-place-test.false) in
    let own : length (concepts_of c.args.self.now) ≤ c.loop-place.place = omega (arith, c.loop-place.invariant.long) in
    sym (c.loop-place.invariant.left_decides
    ∙ made_same-none complement complements complements_from (concepts_of c.args.self.now) (concepts_of c.args.classes.now) c.loop-place.place own past)

pub Classes::are_normal_forms_of-returns-then-len : goal.Classes::are_normal_forms_of-returns-then-len
Classes::are_normal_forms_of-returns-then-len t c =
    sym (made_same-length normal_form normal_forms normal_forms_from (concepts_of c.args.self.now) (concepts_of c.args.classes.now)
    (λ e. c.if-len.true (c.len.ensures ∙ (e ∙ sym c.len-2.ensures))))

pub Classes::are_normal_forms_of-loop-place-init : goal.Classes::are_normal_forms_of-loop-place-init
Classes::are_normal_forms_of-loop-place-init t c = record {
  long = omega (arith, c.len.ensures, c.len-2.ensures, c.if-len.false);
  left_decides = made_same-begin normal_form normal_forms normal_forms_from (concepts_of c.args.self.now) (concepts_of c.args.classes.now);
}

pub Classes::are_normal_forms_of-returns-then-not-is_normal_form_of : goal.Classes::are_normal_forms_of-returns-then-not-is_normal_form_of
Classes::are_normal_forms_of-returns-then-not-is_normal_form_of t c =
    sym (made_same-differ normal_form normal_forms normal_forms_from (concepts_of c.args.self.now) (concepts_of c.args.classes.now) c.loop-place.place
    (concept_of c.get.result.now) (concept_of c.get-in-loop-place.result.now) _ c.get.ensures.item c.get-in-loop-place.ensures.item
    c.loop-place.invariant.left_decides (sym c.is_normal_form_of.ensures ∙ c.if-not-is_normal_form_of.true))

pub Classes::are_normal_forms_of-loop-place-preserved : goal.Classes::are_normal_forms_of-loop-place-preserved
Classes::are_normal_forms_of-loop-place-preserved t c = record {
  long = c.loop-place.invariant.long;
  left_decides = made_same-step normal_form normal_forms normal_forms_from (concepts_of c.args.self.now) (concepts_of c.args.classes.now) c.loop-place.place
      (concept_of c.get.result.now) (concept_of c.get-in-loop-place.result.now) _ c.get.ensures.item c.get-in-loop-place.ensures.item
      c.loop-place.invariant.left_decides (sym c.is_normal_form_of.ensures ∙ c.if-not-is_normal_form_of.false);
}

pub Classes::are_normal_forms_of-returns : goal.Classes::are_normal_forms_of-returns
Classes::are_normal_forms_of-returns t c =
    let past : length (concepts_of c.args.classes.now) ≤ c.loop-place.place = omega (arith, c.len-place-end.ensures, c.loop-place-test.false) in
    let own : length (concepts_of c.args.self.now) ≤ c.loop-place.place = omega (arith, c.loop-place.invariant.long) in
    sym (c.loop-place.invariant.left_decides
    ∙ made_same-none normal_form normal_forms normal_forms_from (concepts_of c.args.self.now) (concepts_of c.args.classes.now) c.loop-place.place own past)
