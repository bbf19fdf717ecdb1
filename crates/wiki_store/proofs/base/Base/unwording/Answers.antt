use Rattle.std.proofs.Common.{◌≡◌, IsSome, None, sym, ap, subst, ◌∙◌}
use Rattle.std.proofs.lemmas.Result.{err_from_is_err_and}
use Rattle.wiki_base.specs.declared.numbers.Place.{Place}
use Rattle.lexicon.specs.Words.{Listed, forms_of, without_word}
use Rattle.wiki_talk.specs.declared.refusals.Refusal.TheVariants.{InUse, NoWord}
use Rattle.wiki_talk.specs.declared.requests.WordRequest.TheVariants as of_word
use Rattle.plain_wiki.specs.Places.{word_with}
use Rattle.plain_wiki.specs.Causes.{FirstOf, when, uses_word}
use Rattle.plain_wiki.specs.Against.{against_word, against_form}
use Rattle.wiki_parts.specs.Holding.{Holding}
use Rattle.wiki_parts.specs.Sound.{IsSound}
use Rattle.wiki_store.specs.Rewording.{TellsPlace}
use Rattle.wiki_store.proofs.RewordLemmas.{bound-word, unknown-form, unword_free, unword-refuses, removes-word, fault_told}
use Rattle.wiki_store.proofs.UnwordLemmas.{some_of, word-lives, told-found, none-found, removed-there}
use Rattle.wiki_store.proofs.base.Base.unwording.Goals as goal

pub returns-in_err-word-clause-refused : goal.returns-in_err-word-clause-refused
returns-in_err-word-clause-refused c =
    let state = c.args.self.now.state in
    let p = err_from_is_err_and c.from_residual.result c.from_residual.ensures.1 in
    rw (p.1, p.2)
    (fault_told (when (word_with state c.args.form.now ≡ None) (NoWord c.args.form.now))
    (FirstOf (against_form state c.args.form.now (against_word state of_word.Unword)))
    c.in_err-word.field-0.0 c.in_err-word.ensures.refused (unknown-form state c.args.form.now (against_word state of_word.Unword)))

pub in_use-requires : goal.in_use-requires
in_use-requires c =
    let state = c.args.self.now.state in
    let word = c.in_ok-word.word in
    let forms = some_of (forms_of state.words.live word) c.in_ok-word.ensures.lives in
    let sound : IsSound state = subst (λ (h : Holding). IsSound h.state) c.self.view_is c.self.invariant.0.sound in
    let told = told-found _ c.in-Some.place (sym (c.use_of.ensures forms.0 forms.1) ∙ c.in-Some.is) in
    subst (λ (p : Place). IsSome (forms_of state.words.live p.article)) told.told (word-lives state sound (uses_word word forms.0) told.found told.is)

pub returns-in_ok-in_use-in-Some-clause-refused : goal.returns-in_ok-in_use-in-Some-clause-refused
returns-in_ok-in_use-in-Some-clause-refused c =
    let state = c.args.self.now.state in
    let word = c.in_ok-word.word in
    let forms = some_of (forms_of state.words.live word) c.in_ok-word.ensures.lives in
    let there = bound-word state c.in_ok-word.ensures.lexicon c.args.form.now word forms.0 c.in_ok-word.ensures.ok forms.1 in
    let told = told-found _ c.in-Some.place (sym (c.use_of.ensures forms.0 forms.1) ∙ c.in-Some.is) in
    let refusal = c.in_ok-in_use-in-Some.field-0 in
    let place = subst (λ (p : Place). TellsPlace state (λ form place. InUse form place) p.article p.at refusal) (sym told.told)
    c.in_ok-in_use-in-Some.ensures in
    unword-refuses state c.args.form.now word forms.0 there told.found told.is refusal place

pub returns-in_ok-lexicon-in-None-clause-free : goal.returns-in_ok-lexicon-in-None-clause-free
returns-in_ok-lexicon-in-None-clause-free c =
    let state = c.args.self.now.state in
    let word = c.in_ok-word.word in
    let forms = some_of (forms_of state.words.live word) c.in_ok-word.ensures.lives in
    let there = bound-word state c.in_ok-word.ensures.lexicon c.args.form.now word forms.0 c.in_ok-word.ensures.ok forms.1 in
    unword_free state c.args.form.now word forms.0 there (none-found _ (sym (c.use_of.ensures forms.0 forms.1) ∙ c.in-None.is))

pub returns-in_ok-lexicon-in-None-clause-removes : goal.returns-in_ok-lexicon-in-None-clause-removes
returns-in_ok-lexicon-in-None-clause-removes c =
    let state = c.args.self.now.state in
    let word = c.in_ok-word.word in
    let forms = some_of (forms_of state.words.live word) c.in_ok-word.ensures.lives in
    let there = bound-word state c.in_ok-word.ensures.lexicon c.args.form.now word forms.0 c.in_ok-word.ensures.ok forms.1 in
    let same : c.in_ok-lexicon-in-None.lexicon ≡ state.words = c.in_ok-lexicon-in-None.ensures ∙ ap (λ (h : Holding). h.state.words) c.self.view_is in
    let lives : IsSome (forms_of c.in_ok-lexicon-in-None.lexicon.live word) =
    subst (λ (ws : Listed). IsSome (forms_of ws.live word)) (sym same) c.in_ok-word.ensures.lives in
    let words = removed-there c.remove.result word (forms_of c.in_ok-lexicon-in-None.lexicon.live word) c.remove.ensures.removed c.remove.ensures.refused lives
    ∙ ap (λ (ws : Listed). without_word ws word) same in
    removes-word state c.args.form.now word forms.0 there c.remove.new.self words

pub returns-in_ok-lexicon-in-None-clause-gone : goal.returns-in_ok-lexicon-in-None-clause-gone
returns-in_ok-lexicon-in-None-clause-gone c =
    let state = c.args.self.now.state in
    let word = c.in_ok-word.word in
    let forms = some_of (forms_of state.words.live word) c.in_ok-word.ensures.lives in
    let same : c.in_ok-lexicon-in-None.lexicon ≡ state.words = c.in_ok-lexicon-in-None.ensures ∙ ap (λ (h : Holding). h.state.words) c.self.view_is in
    let lives : IsSome (forms_of c.in_ok-lexicon-in-None.lexicon.live word) =
    subst (λ (ws : Listed). IsSome (forms_of ws.live word)) (sym same) c.in_ok-word.ensures.lives in
    let words = removed-there c.remove.result word (forms_of c.in_ok-lexicon-in-None.lexicon.live word) c.remove.ensures.removed c.remove.ensures.refused lives
    ∙ ap (λ (ws : Listed). without_word ws word) same in
    record {
      forms = forms.0;
      of_word = forms.1;
      unused = none-found _ (sym (c.use_of.ensures forms.0 forms.1) ∙ c.in-None.is);
      words = words;
    }
