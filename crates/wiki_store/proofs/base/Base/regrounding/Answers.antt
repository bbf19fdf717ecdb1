use Rattle.std.proofs.Common.{◌≡◌, [], ◌∷◌, None, refl, ap, subst, ◌∙◌}
use Rattle.std.proofs.lemmas.Result.{err_from_is_err_and}
use Rattle.lexicon.specs.Words.{Listed, with_terminals, reground_refusal}
use Rattle.wiki_talk.specs.declared.requests.WikiRequest.TheVariants as of_wiki
use Rattle.wiki_parts.specs.Faults.{IsCause}
use Rattle.wiki_parts.specs.Holding.{Holding}
use Rattle.plain_wiki.specs.Causes.{FirstOf, is_no_grammar, is_bare, has_a_form, breaks_by_grammar, breaks_sentence}
use Rattle.plain_wiki.specs.Words.{lexicon_refusal}
use Rattle.plain_wiki.specs.Against.{against_wiki}
use Rattle.wiki_store.proofs.RewordLemmas.{cause_fault, fault_told}
use Rattle.wiki_store.proofs.RegroundLemmas.{keeps_grammar, first_of_more, reground_free, form_told, break_told}
use Rattle.wiki_store.proofs.base.Base.regrounding.Goals as goal

pub returns-in_err-grammar-clause-refused : goal.returns-in_err-grammar-clause-refused
returns-in_err-grammar-clause-refused c =
    let state = c.args.self.now.state in
    let text = c.args.text.now in
    let p = err_from_is_err_and c.from_residual.result c.from_residual.ensures.1 in
    rw (p.1, p.2)
    (fault_told (FirstOf (is_no_grammar text ∷ is_bare text ∷ [])) (FirstOf (against_wiki state (of_wiki.Grammar text))) c.in_err-grammar.field-0.0
    c.in_err-grammar.ensures.refused
    (first_of_more (is_no_grammar text) (is_bare text) (has_a_form state text ∷ breaks_by_grammar state text ∷ [])))

pub returns-in_err-reground-clause-refused : goal.returns-in_err-reground-clause-refused
returns-in_err-reground-clause-refused c =
    let state = c.args.self.now.state in
    let text = c.args.text.now in
    let g = c.in_ok-grammar.grammar in
    let same : c.in_ok-lexicon.lexicon ≡ state.words = c.in_ok-lexicon.ensures ∙ ap (λ (h : Holding). h.state.words) c.self.view_is in
    let cause = subst (λ (ws : Listed). IsCause (lexicon_refusal ws (reground_refusal ws.live g.terminals)) c.in_err-reground.field-0.0) same
    c.in_err-reground.ensures.refused in
    let p = err_from_is_err_and c.from_residual-in_err-reground.result c.from_residual-in_err-reground.ensures.1 in
    rw (p.1, p.2)
    (cause_fault (lexicon_refusal state.words (reground_refusal state.words.live g.terminals)) (FirstOf (against_wiki state (of_wiki.Grammar text)))
    c.in_err-reground.field-0.0 cause
    (form_told state text g c.in_ok-grammar.ensures.text c.in_ok-grammar.ensures.only c.in_ok-grammar.ensures.labelled))

pub returns-in_err-unbroken-clause-refused : goal.returns-in_err-unbroken-clause-refused
returns-in_err-unbroken-clause-refused c =
    let state = c.args.self.now.state in
    let text = c.args.text.now in
    let g = c.in_ok-grammar.grammar in
    let same : c.in_ok-lexicon.lexicon ≡ state.words = c.in_ok-lexicon.ensures ∙ ap (λ (h : Holding). h.state.words) c.self.view_is in
    let made : c.reground.new.lexicon ≡ with_terminals state.words g.terminals =
    c.in_ok-reground.ensures.regrounded ∙ ap (λ (ws : Listed). with_terminals ws g.terminals) same in
    let free : reground_refusal state.words.live g.terminals ≡ None =
    subst (λ (ws : Listed). reground_refusal ws.live g.terminals ≡ None) same c.in_ok-reground.ensures.free in
    let p = err_from_is_err_and c.from_residual-in_err-unbroken.result c.from_residual-in_err-unbroken.ensures.1 in
    rw (p.1, p.2)
    (fault_told (breaks_sentence state g c.reground.new.lexicon) (FirstOf (against_wiki state (of_wiki.Grammar text))) c.in_err-unbroken.field-0.0
    c.in_err-unbroken.ensures.refused
    (break_told state text g c.in_ok-grammar.ensures.text c.in_ok-grammar.ensures.only c.in_ok-grammar.ensures.labelled free c.reground.new.lexicon made))

pub returns-clause-free : goal.returns-clause-free
returns-clause-free c =
    let state = c.args.self.now.state in
    let text = c.args.text.now in
    let g = c.in_ok-grammar.grammar in
    let same : c.in_ok-lexicon.lexicon ≡ state.words = c.in_ok-lexicon.ensures ∙ ap (λ (h : Holding). h.state.words) c.self.view_is in
    let made : c.reground.new.lexicon ≡ with_terminals state.words g.terminals =
    c.in_ok-reground.ensures.regrounded ∙ ap (λ (ws : Listed). with_terminals ws g.terminals) same in
    let free : reground_refusal state.words.live g.terminals ≡ None =
    subst (λ (ws : Listed). reground_refusal ws.live g.terminals ≡ None) same c.in_ok-reground.ensures.free in
    reground_free state text g c.in_ok-grammar.ensures.text c.in_ok-grammar.ensures.only c.in_ok-grammar.ensures.labelled free c.reground.new.lexicon made
    c.in_ok-unbroken.ensures.keep

pub returns-clause-takes : goal.returns-clause-takes
returns-clause-takes c =
    let state = c.args.self.now.state in
    let g = c.in_ok-grammar.grammar in
    let same : c.in_ok-lexicon.lexicon ≡ state.words = c.in_ok-lexicon.ensures ∙ ap (λ (h : Holding). h.state.words) c.self.view_is in
    let made : c.reground.new.lexicon ≡ with_terminals state.words g.terminals =
    c.in_ok-reground.ensures.regrounded ∙ ap (λ (ws : Listed). with_terminals ws g.terminals) same in
    record {
      g = g;
      is = c.in_ok-grammar.ensures.text;
      answer = refl;
      after = ap (λ (ws : Listed). record state { grammar = g; words = ws }) made;
    }

pub returns-clause-keeps : goal.returns-clause-keeps
returns-clause-keeps c =
    let state = c.args.self.now.state in
    let g = c.in_ok-grammar.grammar in
    let same : c.in_ok-lexicon.lexicon ≡ state.words = c.in_ok-lexicon.ensures ∙ ap (λ (h : Holding). h.state.words) c.self.view_is in
    let made : c.reground.new.lexicon ≡ with_terminals state.words g.terminals =
    c.in_ok-reground.ensures.regrounded ∙ ap (λ (ws : Listed). with_terminals ws g.terminals) same in
    keeps_grammar state g c.reground.new.lexicon made c.in_ok-unbroken.ensures.keep
