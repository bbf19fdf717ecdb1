use Rattle.std.proofs.Common.{◌∙◌, sym, ap}
use Rattle.std.specs.Str.{chars}
use Rattle.std.proofs.lemmas.Str.{IsUtf8-past_char}
use Rattle.wiki_base.specs.Text.{is_in_place}
use Rattle.command_line.proofs.FormLemmas.{out_of_place, rest_decides, none_left}
use Rattle.command_line.proofs.forms.are_in_place.Goals as goal

pub returns-then-not-is_in_place : goal.returns-then-not-is_in_place
returns-then-not-is_in_place c =
    sym (c.loop-c.invariant.left_decides
    ∙ out_of_place _ _ _ c.in-Some.c c.loop-c.invariant.utf8 c.in-Some.ensures.steps.0
    (ap (λ bytes. is_in_place c.loop-c.after_letter c.in-Some.c (chars bytes)) (sym c.as_str.ensures) ∙ sym c.is_in_place.ensures ∙ c.if-not-is_in_place.true))

pub loop-c-preserved : goal.loop-c-preserved
loop-c-preserved c =
    let in_place = ap (λ bytes. is_in_place c.loop-c.after_letter c.in-Some.c (chars bytes)) (sym c.as_str.ensures) ∙ sym c.is_in_place.ensures
    ∙ c.if-not-is_in_place.false in
    let decides = c.loop-c.invariant.left_decides
    ∙ rest_decides c.loop-c.after_letter _ _ c.in-Some.c c.loop-c.invariant.utf8 c.in-Some.ensures.steps.0 in_place in
    record {
      utf8 = IsUtf8-past_char _ _ c.in-Some.c c.loop-c.invariant.utf8 c.in-Some.ensures.steps.0;
      left_decides = rw c.is_alphabetic-after_letter.ensures decides;
    }

pub returns : goal.returns
returns c = sym (c.loop-c.invariant.left_decides ∙ none_left _ _ c.in_default.ensures.steps.0.0)
