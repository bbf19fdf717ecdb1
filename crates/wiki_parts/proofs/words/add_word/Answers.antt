use Rattle.std.proofs.Common.{ap, ◌∙◌}
use Rattle.std.proofs.lemmas.Result.{err_from_is_err_and, IfErr-weaker, on_ok_weaker}
use Rattle.lexicon.specs.declared.kinds.Forms.{Forms}
use Rattle.lexicon.specs.Suggest.{form_texts}
use Rattle.plain_wiki.specs.Words.{word_refusal}
use Rattle.wiki_parts.proofs.CauseLemmas.{IsCause-first, IsCause-next}
use Rattle.wiki_parts.proofs.words.add_word.Goals as goal

pub returns-in_err-texts-clause-refused : goal.returns-in_err-texts-clause-refused
unfolding word_refusal
returns-in_err-texts-clause-refused c =
    let p = err_from_is_err_and c.from_residual.result c.from_residual.ensures.1 in
    rw (p.1, p.2) (IsCause-first _ _ _ c.in_err-texts.ensures.refused)

pub returns-in_err-forms-clause-refused : goal.returns-in_err-forms-clause-refused
unfolding word_refusal
returns-in_err-forms-clause-refused c =
    let given = c.deref.ensures.value ∙ c.in_ok-texts.ensures.texts in
    let p = err_from_is_err_and c.from_residual-in_err-forms.result c.from_residual-in_err-forms.ensures.1 in
    rw (p.1, p.2) (IsCause-next _ _ _ c.in_ok-texts.ensures.accepted (IsCause-first _ _ _ (rw given at c.in_err-forms.ensures.refused)))

pub returns-clause-accepted : goal.returns-clause-accepted
unfolding word_refusal
returns-clause-accepted c =
    let given = c.deref.ensures.value ∙ c.in_ok-texts.ensures.texts in
    let count_fits = rw given at c.in_ok-forms.ensures.accepted in
    let texts = ap (λ (forms : Forms). forms.texts) c.in_ok-forms.ensures.forms ∙ ap (form_texts c.args.kind) given in
    on_ok_weaker c.enter.result (λ none. rw (c.in_ok-texts.ensures.accepted, count_fits) (rw texts at none)) c.enter.ensures.accepted

pub returns-clause-refused : goal.returns-clause-refused
unfolding word_refusal
returns-clause-refused c =
    let given = c.deref.ensures.value ∙ c.in_ok-texts.ensures.texts in
    let count_fits = rw given at c.in_ok-forms.ensures.accepted in
    let texts = ap (λ (forms : Forms). forms.texts) c.in_ok-forms.ensures.forms ∙ ap (form_texts c.args.kind) given in
    IfErr-weaker c.enter.result _ _ (λ fault is. IsCause-next _ _ fault c.in_ok-texts.ensures.accepted (IsCause-next _ _ fault count_fits (rw texts at is)))
    c.enter.ensures.refused
