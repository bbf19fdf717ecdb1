use Rattle.std.proofs.Common.{◌≡◌, ℕ, ◌<◌, List, get_or, set, Option, Some, refl, sym, ap, subst, ◌∙◌, arith}
use Rattle.std.specs.Option.{IsSomeAnd}
use Rattle.lexicon.specs.declared.words.TheConstants.{LAST_NUMBER}
use Rattle.articles.specs.declared.article.Article.{Article}
use Rattle.articles.specs.Articles.{article_of, CanChange}
use Rattle.articles.proofs.PlaceLemmas.{found_is}
use Rattle.owl_eval.specs.declared.checked.CheckedModel.{CheckedModel}
use Rattle.owl_eval.specs.Checked.{kept_interp, kept_claims}
use Rattle.wiki_parts.specs.Holding.{Holding}
use Rattle.wiki_parts.specs.Kept.{IsKeeping}
use Rattle.plain_wiki.specs.Knowledge.{Knows}
use Rattle.plain_wiki.specs.State.{Stored}
use Rattle.wiki_store.specs.PuttingBack.{with_sentences, CanBePut}
use Rattle.wiki_store.proofs.ChangeLemmas.{place-within, below-within}
use Rattle.wiki_store.proofs.PutBackLemmas.{keeps_put}
use Rattle.wiki_store.proofs.base.Base.put_back.Goals as goal

pub returns-then-as_slice-place-clause-exactly : goal.returns-then-as_slice-place-clause-exactly
returns-then-as_slice-place-clause-exactly c =
    let inside : Stored = record {
      grammar = c.self.inside.grammar;
      words = c.self.inside.lexicon;
      articles = c.self.inside.articles;
    } in
    let is = place-within inside c.self.inside.budget (kept_interp c.self.inside.kept) c.args.self.now c.self.view_is c.self.inside.senses.items
    c.self.inside.kept
    c.self.invariant.0 c.as_slice.ensures.in_order c.args.kept.article c.place-place.result c.place-place.ensures in
    let article = c.index-as_slice-place.result in
    let found : article_of c.self.inside.articles c.args.kept.article ≡ Some article =
    found_is inside.articles inside.articles refl c.as_slice.ensures.in_order c.args.kept.article c.place-place.result is article
    (c.index-as_slice-place.is ∙ ap (λ (xs : List Article). get_or xs c.place-place.result article) c.as_slice.ensures.articles) in (
      λ never. absurd (cc never),
      λ can.
          let at : CanChange c.self.inside.articles c.args.kept.article =
          subst (λ (h : Holding). CanChange h.state.articles c.args.kept.article) (sym c.self.view_is) can in
          let below : article.revision.0 < LAST_NUMBER = subst (λ (o : Option Article). IsSomeAnd o (λ a. a.revision.0 < LAST_NUMBER)) found at in
          absurd (grind (arith, below, c.if-as_slice-place.true)),
    )

pub exchange-requires : goal.exchange-requires
exchange-requires c =
    let inside : Stored = record {
      grammar = c.self.inside.grammar;
      words = c.self.inside.lexicon;
      articles = c.self.inside.articles;
    } in
    let is = place-within inside c.self.inside.budget (kept_interp c.self.inside.kept) c.args.self.now c.self.view_is c.self.inside.senses.items
    c.self.inside.kept
    c.self.invariant.0 c.as_slice.ensures.in_order c.args.kept.article c.place-place.result c.place-place.ensures in
    let article = c.index-as_slice-place.result in
    let found : article_of c.self.inside.articles c.args.kept.article ≡ Some article =
    found_is inside.articles inside.articles refl c.as_slice.ensures.in_order c.args.kept.article c.place-place.result is article
    (c.index-as_slice-place.is ∙ ap (λ (xs : List Article). get_or xs c.place-place.result article) c.as_slice.ensures.articles) in
    let below : article.revision.0 < LAST_NUMBER = grind (arith, c.if-as_slice-place.false, c.index-as_slice-place.element_fits.fits) in
    subst (λ (o : Option Article). IsSomeAnd o (λ a. a.revision.0 < LAST_NUMBER)) (sym found) below

pub index_mut-requires : goal.index_mut-requires
index_mut-requires c =
    let inside : Stored = record {
      grammar = c.self.inside.grammar;
      words = c.self.inside.lexicon;
      articles = c.self.inside.articles;
    } in
    subst (λ (n : ℕ). c.place-place.result < n) (sym c.self.inside.senses.ok.0)
    (below-within inside c.self.inside.budget (kept_interp c.self.inside.kept) c.args.self.now c.self.view_is c.self.inside.senses.items c.self.inside.kept
    c.self.invariant.0 c.as_slice.ensures.in_order c.args.kept.article c.place-place.result c.place-place.ensures)

pub invariant_of-self : goal.invariant_of-self
invariant_of-self c =
    let inside : Stored = record {
      grammar = c.self.inside.grammar;
      words = c.self.inside.lexicon;
      articles = c.self.inside.articles;
    } in
    let is = place-within inside c.self.inside.budget (kept_interp c.self.inside.kept) c.args.self.now c.self.view_is c.self.inside.senses.items
    c.self.inside.kept
    c.self.invariant.0 c.as_slice.ensures.in_order c.args.kept.article c.place-place.result c.place-place.ensures in
    let can : CanBePut inside c.args.kept = subst (λ (h : Holding). CanBePut h.state c.args.kept) (sym c.self.view_is) c.requires.can in
    let known : Knows (with_sentences inside c.args.kept.article c.args.kept.sentences) (kept_claims c.args.model) =
    subst (λ (h : Holding). Knows (with_sentences h.state c.args.kept.article c.args.kept.sentences) (kept_claims c.args.model)) (sym c.self.view_is)
    c.requires.known in
    let senses = set c.self.inside.senses.items c.place-place.result c.args.kept.senses in (
      subst (λ (kept : CheckedModel). IsKeeping (record inside { articles = c.exchange.new.self }) senses kept) (sym c.sharing.ensures)
          (subst (λ (articles : List Article). IsKeeping (record inside { articles = articles }) senses c.args.model) (sym c.exchange.ensures.articles)
          (keeps_put inside c.self.inside.senses.items c.self.inside.kept c.self.invariant.0 c.as_slice.ensures.in_order c.args.kept can c.place-place.result
          is c.args.model known)),
      c.self.invariant.1,
    )

pub returns-clause-exactly : goal.returns-clause-exactly
returns-clause-exactly c =
    let inside : Stored = record {
      grammar = c.self.inside.grammar;
      words = c.self.inside.lexicon;
      articles = c.self.inside.articles;
    } in
    let is = place-within inside c.self.inside.budget (kept_interp c.self.inside.kept) c.args.self.now c.self.view_is c.self.inside.senses.items
    c.self.inside.kept
    c.self.invariant.0 c.as_slice.ensures.in_order c.args.kept.article c.place-place.result c.place-place.ensures in
    let article = c.index-as_slice-place.result in
    let found : article_of c.self.inside.articles c.args.kept.article ≡ Some article =
    found_is inside.articles inside.articles refl c.as_slice.ensures.in_order c.args.kept.article c.place-place.result is article
    (c.index-as_slice-place.is ∙ ap (λ (xs : List Article). get_or xs c.place-place.result article) c.as_slice.ensures.articles) in
    let below : article.revision.0 < LAST_NUMBER = grind (arith, c.if-as_slice-place.false, c.index-as_slice-place.element_fits.fits) in
    let can : CanChange c.self.inside.articles c.args.kept.article =
    subst (λ (o : Option Article). IsSomeAnd o (λ a. a.revision.0 < LAST_NUMBER)) (sym found) below in
    (λ _. subst (λ (h : Holding). CanChange h.state.articles c.args.kept.article) c.self.view_is can, λ _. refl)
