use Rattle.std.proofs.Common.{◌≡◌, Some, IsSome, sym, subst}
use Rattle.wiki_base.specs.declared.numbers.WordId.{WordId}
use Rattle.lexicon.specs.Words.{forms_of}
use Rattle.articles.specs.Articles.{article_of}
use Rattle.wiki_store.proofs.KeepingLemmas.{article-word}
use Rattle.wiki_store.proofs.base.Base.article_with.Goals as goal

pub returns-clause-there : goal.returns-clause-there
returns-clause-there c =
    let articles = c.args.self.now.state.articles in
    let article = c.article.result.now in
    subst (λ (w : WordId). article_of articles w ≡ Some article) (sym (article-word articles c.in_ok-word.word article c.article.ensures.article))
    c.article.ensures.article

pub returns-clause-lives : goal.returns-clause-lives
returns-clause-lives c =
    let state = c.args.self.now.state in
    let article = c.article.result.now in
    subst (λ (w : WordId). IsSome (forms_of state.words.live w)) (sym (article-word state.articles c.in_ok-word.word article c.article.ensures.article))
    c.in_ok-word.ensures.lives
