use Rattle.std.proofs.Common.{◌≡◌, List, Some, option_map, sym, ap, subst, ◌∙◌}
use Rattle.articles.specs.Articles.{article_of}
use Rattle.logic_terms.specs.Interpretation.{Interpretation}
use Rattle.logic_terms.specs.Reading.{IsModel}
use Rattle.logic_terms.proofs.MeaningLemmas.{all_hold-Decides}
use Rattle.owl_eval.specs.declared.checked.CheckedModel.{CheckedModel}
use Rattle.owl_eval.specs.Checked.{kept_claims}
use Rattle.wiki_parts.specs.Holding.{Holding}
use Rattle.wiki_parts.specs.Kept.{MeanEach, meanings_in}
use Rattle.wiki_parts.specs.declared.meanings.Sense.{Sense}
use Rattle.plain_wiki.specs.State.{Stored}
use Rattle.wiki_store.specs.PuttingBack.{IsOfArticle}
use Rattle.wiki_store.proofs.PutBackLemmas.{of_article}
use Rattle.wiki_store.proofs.base.Base.keep.Goals as goal

pub returns-in_ok-shared-in-Some : goal.returns-in_ok-shared-in-Some
returns-in_ok-shared-in-Some c =
    let inside : Stored = record {
      grammar = c.self.inside.grammar;
      words = c.self.inside.lexicon;
      articles = c.self.inside.articles;
    } in
    let kept : CheckedModel = c.self.inside.kept in
    let there =
    sym c.sentences.ensures ∙ ap (option_map (λ sentences. sentences.now)) c.in-Some.is ∙ ap Some (sym c.in_ok-copy-in-Some.ensures) in
    subst
    (λ (h : Holding). IsOfArticle h c.args.word (record {
      article = c.args.word;
      sentences = c.in_ok-copy-in-Some.field-0;
      senses = c.in_ok-copy-in-Some-2.field-0;
      interp = c.in_ok-shared-in-Some.field-0;
    }))
    c.self.view_is
    (of_article inside c.self.inside.budget c.self.inside.senses.items c.self.inside.kept c.self.invariant.0 c.len.ensures.in_order c.args.word
    c.in_ok-copy-in-Some.field-0
    c.in_ok-copy-in-Some-2.field-0 c.in_ok-shared-in-Some.field-0 there
    (λ a found. subst (λ (senses : List Sense). MeanEach inside.grammar inside.words a.sentences (meanings_in senses)) (sym c.in_ok-copy-in-Some-2.ensures)
    (subst
    (λ (h : Holding). article_of h.state.articles c.args.word ≡ Some a
    → MeanEach h.state.grammar h.state.words a.sentences (meanings_in c.senses_of-senses.result.now))
    (sym c.self.view_is) (c.senses_of-senses.ensures a) found))
    c.in_ok-shared-in-Some.ensures
    (subst (λ (i : Interpretation). IsModel i (kept_claims kept)) (sym c.in_ok-shared-in-Some.ensures)
    ((all_hold-Decides kept.interp (kept_claims kept)).0 kept.model)))
