use Rattle.std.proofs.Common.{◌≡◌, cond, None, sym, subst, ap, ◌∙◌}
use Rattle.lexicon.specs.Words.{Listed, IsPlaceOf, has_form, owner, without_word}
use Rattle.std.specs.List.{remove}
use Rattle.lexicon.specs.declared.words.Word.{Word}
use Rattle.lexicon.proofs.Others.{owner-removed}
use Rattle.lexicon.proofs.Changing.{lexicon_without, without_place}
use Rattle.lexicon.proofs.words.Lexicon.remove.Goals as goal
use Rattle.lexicon.proofs.words.Lexicon.remove.Goals.{After-drop-word}

abbrev listed : After-drop-word → Listed
listed c = record { live = c.self.inside.words.items; terminals = c.self.inside.terminals; last = c.self.inside.last }

is_place : (c : After-drop-word) → IsPlaceOf c.self.inside.words.items c.args.id c.in-Some.place
is_place c = subst (λ (l : Listed). IsPlaceOf l.live c.args.id c.in-Some.place) (sym c.self.view_is) c.in-Some.ensures.place

-- without the forms of the word the table finds the others
pub invariant_of-self : goal.invariant_of-self
invariant_of-self c = rw c.remove-word.ensures.items (
  lexicon_without (listed c) c.self.invariant.0 c.args.id c.in-Some.place (is_place c),
  λ text. c.forget.ensures.found text ∙ rw (c.self.invariant.1 text)
      (subst (λ (word : Word). cond (has_form text word) None (owner c.self.inside.words.items text)
      ≡ owner (remove c.self.inside.words.items c.in-Some.place) text) (sym c.remove-word.ensures.value)
      (owner-removed c.self.inside.words.items c.self.invariant.0.apart c.in-Some.place c.remove-word.result (is_place c).in_range text)),
)

pub returns-clause-removed : goal.returns-clause-removed
returns-clause-removed c = rw c.remove-word.ensures.items
    (without_place (listed c) c.self.invariant.0 c.args.id c.in-Some.place (is_place c) ∙ ap (λ (l : Listed). without_word l c.args.id) c.self.view_is)
