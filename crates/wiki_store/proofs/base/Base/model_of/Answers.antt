use Rattle.std.proofs.Common.{◌≡◌, ◌+◌, ◌++◌, List, take, drop, sym, subst, ◌∙◌}
use Rattle.std.specs.Prelude.{IfOk}
use Rattle.articles.specs.declared.article.Article.{Article}
use Rattle.articles.specs.Articles.{AreInOrder}
use Rattle.articles.specs.Places.{IsPlaceOf}
use Rattle.logic_terms.specs.Concept.{Claim}
use Rattle.owl_eval.specs.declared.checked.CheckedModel.{CheckedModel}
use Rattle.owl_eval.specs.Checked.{kept_interp, kept_claims}
use Rattle.wiki_parts.specs.declared.meanings.Sense.{Sense}
use Rattle.wiki_parts.specs.Holding.{Holding}
use Rattle.wiki_parts.specs.Kept.{known_of, known_in, meanings_in}
use Rattle.plain_wiki.specs.Knowledge.{Knows}
use Rattle.plain_wiki.specs.State.{Stored}
use Rattle.wiki_store.specs.PuttingBack.{with_sentences, CanBePut}
use Rattle.wiki_store.proofs.ChangeLemmas.{place-within}
use Rattle.wiki_store.proofs.InsideLemmas.{each-ok, moved}
use Rattle.wiki_store.proofs.KeepingLemmas.{as_many_lists}
use Rattle.wiki_store.proofs.PutBackLemmas.{put_known, put_parts, put_model}
use Rattle.wiki_store.proofs.base.Base.model_of.Goals as goal

pub model_with-requires-clause-many : goal.model_with-requires-clause-many
model_with-requires-clause-many c =
    rw (c.as_slice-articles.ensures.articles, c.deref.ensures.value)
    (as_many_lists c.self.inside.grammar c.self.inside.lexicon c.self.inside.articles c.self.inside.senses.items c.self.invariant.0.mean)

pub model_with-requires-clause-model : goal.model_with-requires-clause-model
model_with-requires-clause-model c =
    let inside : Stored = record {
      grammar = c.self.inside.grammar;
      words = c.self.inside.lexicon;
      articles = c.self.inside.articles;
    } in
    let ordered : AreInOrder c.self.inside.articles = c.as_slice-articles.ensures.in_order in
    let is : IsPlaceOf c.self.inside.articles c.args.kept.now.article c.place-place.result =
    place-within inside c.self.inside.budget (kept_interp c.self.inside.kept) c.args.self.now c.self.view_is c.self.inside.senses.items c.self.inside.kept
    c.self.invariant.0 ordered c.args.kept.now.article c.place-place.result c.place-place.ensures in
    let can : CanBePut inside c.args.kept.now = subst (λ (h : Holding). CanBePut h.state c.args.kept.now) (sym c.self.view_is) c.requires in
    rw (c.as_slice-articles.ensures.articles, c.deref.ensures.value)
    (put_model inside c.self.inside.senses.items c.self.inside.kept c.self.invariant.0 ordered c.args.kept.now can c.place-place.result is)

pub returns-clause-known : goal.returns-clause-known
returns-clause-known c =
    let inside : Stored = record {
      grammar = c.self.inside.grammar;
      words = c.self.inside.lexicon;
      articles = c.self.inside.articles;
    } in
    let ordered : AreInOrder c.self.inside.articles = c.as_slice-articles.ensures.in_order in
    let is : IsPlaceOf c.self.inside.articles c.args.kept.now.article c.place-place.result =
    place-within inside c.self.inside.budget (kept_interp c.self.inside.kept) c.args.self.now c.self.view_is c.self.inside.senses.items c.self.inside.kept
    c.self.invariant.0 ordered c.args.kept.now.article c.place-place.result c.place-place.ensures in
    let can : CanBePut inside c.args.kept.now = subst (λ (h : Holding). CanBePut h.state c.args.kept.now) (sym c.self.view_is) c.requires in
    let parts : List Article → List (List Sense) → List Claim =
    λ xs ms. known_in (take c.place-place.result xs) (take c.place-place.result ms)
    ++ (known_of c.args.kept.now.sentences (meanings_in c.args.kept.now.senses)
    ++ known_in (drop (c.place-place.result + 1) xs) (drop (c.place-place.result + 1) ms)) in
    each-ok c.model_with.result (λ (model : CheckedModel). kept_claims model ≡ parts c.self.inside.articles c.self.inside.senses.items)
    (λ (model : CheckedModel). Knows (with_sentences c.args.self.now.state c.args.kept.now.article c.args.kept.now.sentences) (kept_claims model))
    (λ (model : CheckedModel) same.
    subst (λ (h : Holding). Knows (with_sentences h.state c.args.kept.now.article c.args.kept.now.sentences) (kept_claims model)) c.self.view_is
    (subst (Knows (with_sentences inside c.args.kept.now.article c.args.kept.now.sentences))
    (sym (same
    ∙ sym (put_parts inside c.self.inside.senses.items c.self.inside.kept c.self.invariant.0 ordered c.args.kept.now can c.place-place.result is)))
    (put_known inside c.self.inside.senses.items c.self.inside.kept c.self.invariant.0 ordered c.args.kept.now can c.place-place.result is)))
    (moved (λ (xs : List Article) (ms : List (List Sense)). IfOk c.model_with.result (λ (model : CheckedModel). kept_claims model ≡ parts xs ms))
    c.as_slice-articles.result.now c.self.inside.articles c.deref.result.now c.self.inside.senses.items c.as_slice-articles.ensures.articles
    c.deref.ensures.value c.model_with.ensures.claims)
