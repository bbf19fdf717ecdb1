use Rattle.std.proofs.Common.{◌≡◌, Some, sym, ap, subst, ◌∙◌}
use Rattle.std.proofs.lemmas.Option.{slice_get-get_or}
use Rattle.articles.specs.Articles.{article_of}
use Rattle.owl_eval.specs.Checked.{kept_interp}
use Rattle.wiki_parts.specs.Holding.{Holding}
use Rattle.wiki_parts.specs.Kept.{MeanEach, meanings_in}
use Rattle.plain_wiki.specs.State.{Stored}
use Rattle.wiki_store.proofs.ChangeLemmas.{place-within, below-within}
use Rattle.wiki_store.proofs.KeepingLemmas.{as_many_lists}
use Rattle.wiki_store.proofs.ReadLemmas.{mean_there}
use Rattle.wiki_store.proofs.base.Base.senses_of.Goals as goal

pub prove-unreachable-requires : goal.prove-unreachable-requires
prove-unreachable-requires c =
    let lists = as_many_lists c.self.inside.grammar c.self.inside.lexicon c.self.inside.articles c.self.inside.senses.items c.self.invariant.0.mean in
    c.if-prove.true (c.len.ensures.count ∙ sym lists ∙ sym c.self.inside.senses.ok.0 ∙ sym c.len-2.ensures)

pub returns : goal.returns
returns c = λ article found.
    let inside : Stored = record {
      grammar = c.self.inside.grammar;
      words = c.self.inside.lexicon;
      articles = c.self.inside.articles;
    } in
    let place = c.place-place.result in
    let own = c.index.result.now in
    let is = place-within inside c.self.inside.budget (kept_interp c.self.inside.kept) c.args.self.now c.self.view_is c.self.inside.senses.items
    c.self.inside.kept
    c.self.invariant.0 c.len.ensures.in_order c.args.word place c.place-place.ensures in
    let below = below-within inside c.self.inside.budget (kept_interp c.self.inside.kept) c.args.self.now c.self.view_is c.self.inside.senses.items
    c.self.inside.kept
    c.self.invariant.0 c.len.ensures.in_order c.args.word place c.place-place.ensures in
    subst (λ (h : Holding). MeanEach h.state.grammar h.state.words article.sentences (meanings_in own)) c.self.view_is
    (mean_there c.self.inside.grammar c.self.inside.lexicon c.self.inside.articles c.self.inside.senses.items c.self.invariant.0.mean c.len.ensures.in_order
    c.args.word place is own
    (slice_get-get_or c.self.inside.senses.items place own below ∙ ap Some (sym c.index.ensures)) article
    (subst (λ (h : Holding). article_of h.state.articles c.args.word ≡ Some article) (sym c.self.view_is) found))
