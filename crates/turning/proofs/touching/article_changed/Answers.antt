use Rattle.std.proofs.Common.{Option, IsSome, sym, subst, refl}
use Rattle.std.specs.Prelude.{IfSome}
use Rattle.wiki_base.specs.declared.numbers.WordId.{WordId}
use Rattle.articles.specs.Articles.{article_of}
use Rattle.lexicon.specs.Words.{Listed, forms_of}
use Rattle.plain_wiki.specs.Places.{session_numbered}
use Rattle.turning.proofs.TurnLemmas.{named_there, session_there}
use Rattle.turning.proofs.touching.article_changed.Goals as goal

pub returns-in-OnSession-default-Commit-clause-there : goal.returns-in-OnSession-default-Commit-clause-there
returns-in-OnSession-default-Commit-clause-there c =
    subst (λ (o : Option WordId). IfSome o (λ word. IsSome (article_of c.args.wiki.now.state.stored.articles word))) (sym c.article_of.ensures)
    (session_there c.args.wiki.now c.is_kept.ensures c.in-OnSession-default-Commit.session
    (session_numbered c.args.wiki.now.state c.in-OnSession-default-Commit.session) refl)

pub returns-in-OnArticle-clause-there : goal.returns-in-OnArticle-clause-there
returns-in-OnArticle-clause-there c =
    named_there c.args.wiki.now.state.stored c.is_kept.ensures.stored.sound c.find.result
    (subst (λ (words : Listed). IfSome c.find.result (λ id. IsSome (forms_of words.live id))) c.lexicon.ensures c.find.ensures.lives)
