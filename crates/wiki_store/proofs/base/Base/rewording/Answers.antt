use Rattle.std.proofs.Common.{◌≡◌, All, None, sym, ap, subst, ◌∙◌}
use Rattle.std.proofs.lemmas.Result.{err_from_is_err_and}
use Rattle.codeco_terms.specs.GrammarParts.{GrammarParts}
use Rattle.lexicon.specs.Words.{Listed, with_forms, others, forms_refusal}
use Rattle.wiki_talk.specs.declared.refusals.Refusal.TheVariants.{NoWord}
use Rattle.wiki_talk.specs.declared.requests.WordRequest.TheVariants as of_word
use Rattle.plain_wiki.specs.Places.{word_with, all_placed}
use Rattle.plain_wiki.specs.Causes.{FirstOf, when, KeepsMeaning, reword_cause, breaks_sentence}
use Rattle.plain_wiki.specs.Words.{forms_given}
use Rattle.plain_wiki.specs.Against.{against_word, against_form}
use Rattle.wiki_parts.specs.Faults.{IsCause, IsFault}
use Rattle.wiki_parts.specs.Holding.{Holding}
use Rattle.wiki_parts.specs.Sound.{IsSound}
use Rattle.wiki_store.specs.Rewording.{KeepsOthers}
use Rattle.wiki_store.proofs.RewordLemmas.{bound-word, unknown-form, keeps_others, keeps_sentences, reword_free, bad_reword, broken_told, rewords-word, cause_fault, fault_told}
use Rattle.wiki_store.proofs.base.Base.rewording.Goals as goal

pub returns-in_err-word-clause-refused : goal.returns-in_err-word-clause-refused
returns-in_err-word-clause-refused c =
    let state = c.args.self.now.state in
    let p = err_from_is_err_and c.from_residual.result c.from_residual.ensures.1 in
    rw (p.1, p.2)
    (fault_told (when (word_with state c.args.form.now ≡ None) (NoWord c.args.form.now))
    (FirstOf (against_form state c.args.form.now (against_word state (of_word.Reword c.args.texts.now))))
    c.in_err-word.field-0.0 c.in_err-word.ensures.refused (unknown-form state c.args.form.now (against_word state (of_word.Reword c.args.texts.now))))

pub returns-in_err-reword_word-clause-refused : goal.returns-in_err-reword_word-clause-refused
returns-in_err-reword_word-clause-refused c =
    let state = c.args.self.now.state in
    let word = c.in_ok-word.word in
    let old = c.forms-old.result.now in
    let there = bound-word state c.in_ok-word.ensures.lexicon c.args.form.now word old c.in_ok-word.ensures.ok c.forms-old.ensures in
    let same : c.in_ok-lexicon.lexicon ≡ state.words = c.in_ok-lexicon.ensures ∙ ap (λ (h : Holding). h.state.words) c.self.view_is in
    let cause = subst (λ (ws : Listed). IsCause (reword_cause ws word old.kind c.args.texts.now) c.in_err-reword_word.field-0.0) same
    c.in_err-reword_word.ensures.refused in
    let p = err_from_is_err_and c.from_residual-in_err-reword_word.result c.from_residual-in_err-reword_word.ensures.1 in
    rw (p.1, p.2)
    (cause_fault (reword_cause state.words word old.kind c.args.texts.now)
    (FirstOf (against_form state c.args.form.now (against_word state (of_word.Reword c.args.texts.now))))
    c.in_err-reword_word.field-0.0 cause (bad_reword state c.args.form.now c.args.texts.now word old there))

pub unbroken-requires-clause-others : goal.unbroken-requires-clause-others
unbroken-requires-clause-others c =
    let state = c.args.self.now.state in
    let word = c.in_ok-word.word in
    let old = c.forms-old.result.now in
    let same : c.in_ok-lexicon.lexicon ≡ state.words = c.in_ok-lexicon.ensures ∙ ap (λ (h : Holding). h.state.words) c.self.view_is in
    let kept : c.self.inside.grammar ≡ state.grammar = ap (λ (h : Holding). h.state.grammar) c.self.view_is in
    let sound : IsSound state = subst (λ (h : Holding). IsSound h.state) c.self.view_is c.self.invariant.0.sound in
    let is : c.reword_word.new.lexicon ≡ with_forms state.words word (forms_given old.kind c.args.texts.now) =
    c.in_ok-reword_word.ensures.given ∙ ap (λ (ws : Listed). with_forms ws word (forms_given old.kind c.args.texts.now)) same in
    let free = subst (λ (ws : Listed). forms_refusal (others ws.live word) ws.terminals (forms_given old.kind c.args.texts.now) ≡ None) same
    c.in_ok-reword_word.ensures.free in
    subst (λ (g : GrammarParts). KeepsOthers state.grammar state.words g c.reword_word.new.lexicon old.texts) (sym kept)
    (keeps_others state sound c.in_ok-word.ensures.lexicon word old (forms_given old.kind c.args.texts.now) c.forms-old.ensures free c.reword_word.new.lexicon
    is)

pub unbroken-requires-clause-labelled : goal.unbroken-requires-clause-labelled
unbroken-requires-clause-labelled c = c.self.invariant.0.sound.labelled

pub returns-in_err-unbroken-clause-refused : goal.returns-in_err-unbroken-clause-refused
returns-in_err-unbroken-clause-refused c =
    let state = c.args.self.now.state in
    let word = c.in_ok-word.word in
    let old = c.forms-old.result.now in
    let there = bound-word state c.in_ok-word.ensures.lexicon c.args.form.now word old c.in_ok-word.ensures.ok c.forms-old.ensures in
    let same : c.in_ok-lexicon.lexicon ≡ state.words = c.in_ok-lexicon.ensures ∙ ap (λ (h : Holding). h.state.words) c.self.view_is in
    let kept : c.self.inside.grammar ≡ state.grammar = ap (λ (h : Holding). h.state.grammar) c.self.view_is in
    let is : c.reword_word.new.lexicon ≡ with_forms state.words word (forms_given old.kind c.args.texts.now) =
    c.in_ok-reword_word.ensures.given ∙ ap (λ (ws : Listed). with_forms ws word (forms_given old.kind c.args.texts.now)) same in
    let none : reword_cause state.words word old.kind c.args.texts.now ≡ None =
    subst (λ (ws : Listed). reword_cause ws word old.kind c.args.texts.now ≡ None) same c.in_ok-reword_word.ensures.accepted in
    let p = err_from_is_err_and c.from_residual-in_err-unbroken.result c.from_residual-in_err-unbroken.ensures.1 in
    rw (p.1, p.2)
    (fault_told (breaks_sentence state state.grammar c.reword_word.new.lexicon)
    (FirstOf (against_form state c.args.form.now (against_word state (of_word.Reword c.args.texts.now))))
    c.in_err-unbroken.field-0.0
    (subst (λ (g : GrammarParts). IsFault (breaks_sentence state g c.reword_word.new.lexicon) c.in_err-unbroken.field-0.0) kept
    c.in_err-unbroken.ensures.refused)
    (broken_told state c.args.form.now c.args.texts.now word old there c.reword_word.new.lexicon is none))

pub returns-clause-free : goal.returns-clause-free
returns-clause-free c =
    let state = c.args.self.now.state in
    let word = c.in_ok-word.word in
    let old = c.forms-old.result.now in
    let there = bound-word state c.in_ok-word.ensures.lexicon c.args.form.now word old c.in_ok-word.ensures.ok c.forms-old.ensures in
    let same : c.in_ok-lexicon.lexicon ≡ state.words = c.in_ok-lexicon.ensures ∙ ap (λ (h : Holding). h.state.words) c.self.view_is in
    let kept : c.self.inside.grammar ≡ state.grammar = ap (λ (h : Holding). h.state.grammar) c.self.view_is in
    let is : c.reword_word.new.lexicon ≡ with_forms state.words word (forms_given old.kind c.args.texts.now) =
    c.in_ok-reword_word.ensures.given ∙ ap (λ (ws : Listed). with_forms ws word (forms_given old.kind c.args.texts.now)) same in
    let none : reword_cause state.words word old.kind c.args.texts.now ≡ None =
    subst (λ (ws : Listed). reword_cause ws word old.kind c.args.texts.now ≡ None) same c.in_ok-reword_word.ensures.accepted in
    let keep = subst (λ (g : GrammarParts). All (λ placed. KeepsMeaning state.grammar state.words g c.reword_word.new.lexicon placed.sentence.tokens)
    (all_placed state.articles)) kept c.in_ok-unbroken.ensures.keep in
    reword_free state c.args.form.now c.args.texts.now word old there c.reword_word.new.lexicon is none keep

pub returns-clause-rewords : goal.returns-clause-rewords
returns-clause-rewords c =
    let state = c.args.self.now.state in
    let word = c.in_ok-word.word in
    let old = c.forms-old.result.now in
    let there = bound-word state c.in_ok-word.ensures.lexicon c.args.form.now word old c.in_ok-word.ensures.ok c.forms-old.ensures in
    let same : c.in_ok-lexicon.lexicon ≡ state.words = c.in_ok-lexicon.ensures ∙ ap (λ (h : Holding). h.state.words) c.self.view_is in
    let is : c.reword_word.new.lexicon ≡ with_forms state.words word (forms_given old.kind c.args.texts.now) =
    c.in_ok-reword_word.ensures.given ∙ ap (λ (ws : Listed). with_forms ws word (forms_given old.kind c.args.texts.now)) same in
    rewords-word state c.args.form.now c.args.texts.now word old there c.reword_word.new.lexicon is

pub returns-clause-keeps : goal.returns-clause-keeps
returns-clause-keeps c =
    let state = c.args.self.now.state in
    let word = c.in_ok-word.word in
    let old = c.forms-old.result.now in
    let same : c.in_ok-lexicon.lexicon ≡ state.words = c.in_ok-lexicon.ensures ∙ ap (λ (h : Holding). h.state.words) c.self.view_is in
    let kept : c.self.inside.grammar ≡ state.grammar = ap (λ (h : Holding). h.state.grammar) c.self.view_is in
    let is : c.reword_word.new.lexicon ≡ with_forms state.words word (forms_given old.kind c.args.texts.now) =
    c.in_ok-reword_word.ensures.given ∙ ap (λ (ws : Listed). with_forms ws word (forms_given old.kind c.args.texts.now)) same in
    let keep = subst (λ (g : GrammarParts). All (λ placed. KeepsMeaning state.grammar state.words g c.reword_word.new.lexicon placed.sentence.tokens)
    (all_placed state.articles)) kept c.in_ok-unbroken.ensures.keep in
    let sound : IsSound state = subst (λ (h : Holding). IsSound h.state) c.self.view_is c.self.invariant.0.sound in
    keeps_sentences state sound word (forms_given old.kind c.args.texts.now) c.reword_word.new.lexicon is keep
