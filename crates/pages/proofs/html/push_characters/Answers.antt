use Rattle.std.proofs.Common.{◌≡◌, ◌∙◌, sym, ap, ◌++◌, List, ℕ}
use Rattle.std.specs.List.{flat_map}
use Rattle.std.specs.Str.{chars}
use Rattle.std.specs.Str.Iter.{chars_rest}
use Rattle.std.proofs.lemmas.Str.{IsUtf8-past_char}
use Rattle.pages.specs.Html.{escaped_char}
use Rattle.pages.proofs.HtmlLemmas.{escaped-past_char, escaped-end}
use Rattle.pages.proofs.html.push_characters.Goals as goal

pub loop-c-preserved : goal.loop-c-preserved
loop-c-preserved c = record {
  utf8 = IsUtf8-past_char _ _ c.in-Some.c c.loop-c.invariant.utf8 c.in-Some.ensures.steps.0;
  left_decides =
      ap (λ (front : List ℕ). front ++ flat_map escaped_char (chars (chars_rest c.next.new.self))) c.in_ok-push_character.ensures
      ∙ sym (escaped-past_char _ _ _ c.in-Some.c c.loop-c.invariant.utf8 c.in-Some.ensures.steps.0) ∙ c.loop-c.invariant.left_decides;
}

pub returns : goal.returns
returns c = sym (escaped-end _ _ c.in-None.ensures.steps.0.0) ∙ c.loop-c.invariant.left_decides
