use Rattle.std.proofs.Common.{◌≡◌, Some, sym, subst}
use Rattle.plain_wiki.specs.State.{Stored}
use Rattle.articles.specs.Articles.{article_of}
use Rattle.wiki_parts.specs.Holding.{Holding, IsStored}
use Rattle.wiki_store.proofs.KeepingLemmas.{stored_there}
use Rattle.wiki_store.proofs.base.Base.sentence.Goals as goal

pub returns-clause-stored : goal.returns-clause-stored
returns-clause-stored c =
    let inside : Stored = record {
      grammar = c.self.inside.grammar;
      words = c.self.inside.lexicon;
      articles = c.self.inside.articles;
    } in
    let there = subst (λ (h : Holding). article_of h.state.articles c.args.article.now.word ≡ Some c.args.article.now) (sym c.self.view_is) c.requires.there in
    subst (λ (h : Holding). IsStored h.state c.get.result.now) c.self.view_is
    (stored_there inside c.self.inside.senses.items c.self.inside.kept (λ tokens. c.is_faithful.ensures inside.words tokens) c.self.invariant.0
    c.args.article.now.word c.args.article.now there c.args.at c.get.result.now
    c.get.ensures)
