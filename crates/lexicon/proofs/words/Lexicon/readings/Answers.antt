use Rattle.std.proofs.Common.{◌≡◌, get_or, sym, ap, subst, ◌∙◌}
use Rattle.lexicon.specs.Words.{Listed}
use Rattle.lexicon.specs.Readings.{readings_of_word}
use Rattle.lexicon.proofs.Adding.{no_word_has}
use Rattle.lexicon.proofs.Reading.{readings_none, readings_at, owner_has_form}
use Rattle.lexicon.proofs.words.Lexicon.readings.Goals as goal

-- no word has the token
pub returns-in_default : goal.returns-in_default
returns-in_default c = c.none.ensures ∙ sym
    (readings_none c.args.self.now.live c.args.form.now (no_word_has c.args.self.now.live c.args.form.now (sym c.find.ensures.owner ∙ c.in_default.is)))

-- the word that has the token stands at the place
pub returns-in-Some-place_of : goal.returns-in-Some-place_of
returns-in-Some-place_of c =
    let live = c.args.self.now.live in
    let token = c.args.form.now in
    let word = c.index.result.now in
    let place = c.in-Some-place_of.place in
    let is = c.in-Some-place_of.ensures.place in
    let has = owner_has_form live c.find.ensures.lexicon.in_order token c.in-Some.id place word (sym c.in-Some.ensures.owner) is in
    let at : word ≡ get_or live place word = subst (λ (l : Listed). word ≡ get_or l.live place word) c.self.view_is c.index.ensures in
    c.readings_of_word.ensures ∙ ap (readings_of_word token) at ∙ sym (readings_at live c.find.ensures.lexicon.apart token place word is.in_range has)
