use Rattle.std.proofs.Common.{◌≡◌, sym, subst, ap, Some, ◌∙◌}
use Rattle.lexicon.proofs.Places.{forms_at_place}
use Rattle.lexicon.specs.Kinds.{IsComplete}
use Rattle.lexicon.specs.declared.words.Word.{Word}
use Rattle.lexicon.specs.Words.{Listed, IsPlaceOf, forms_of}
use Rattle.lexicon.proofs.words.Lexicon.word.Goals as goal

-- the word with the number is the one at its place
pub returns-in-Some-clause-forms : goal.returns-in-Some-clause-forms
returns-in-Some-clause-forms c =
    let is_place = subst (λ (listed : Listed). IsPlaceOf listed.live c.args.id c.in-Some.place) (sym c.self.view_is) c.in-Some.ensures.place in
    let found = forms_at_place c.self.inside.words.items c.self.invariant.0.in_order c.args.id c.in-Some.place c.index.result.now is_place in
    subst (λ (listed : Listed). Some c.index.result.now.forms ≡ forms_of listed.live c.args.id) c.self.view_is
    (ap (λ (word : Word). Some word.forms) c.index.ensures ∙ sym found)

-- each word that lives has the forms of its kind
pub returns-in-Some-clause-complete : goal.returns-in-Some-clause-complete
returns-in-Some-clause-complete c =
    let is_place = subst (λ (listed : Listed). IsPlaceOf listed.live c.args.id c.in-Some.place) (sym c.self.view_is) c.in-Some.ensures.place in
    subst (λ (word : Word). IsComplete word.forms) (sym c.index.ensures) (c.self.invariant.0.complete c.in-Some.place c.index.result.now is_place.in_range)
