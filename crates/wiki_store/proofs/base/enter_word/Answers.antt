use Rattle.std.proofs.Common.{List, sym, ap, subst, ◌∙◌}
use Rattle.articles.specs.declared.article.Article.{Article}
use Rattle.articles.specs.Articles.{without_article, IsEmptyArticle}
use Rattle.wiki_store.proofs.AddLemmas.{new-is-empty, new-taken-out}
use Rattle.wiki_store.proofs.base.enter_word.Goals as goal

pub end-requires : goal.end-requires
end-requires c =
    subst (λ (articles : List Article). IsEmptyArticle articles c.args.word) (sym c.in_ok-begin.ensures.ok)
    (new-is-empty c.args.word c.args.articles.now c.requires)

pub returns-in-Err-clause-articles : goal.returns-in-Err-clause-articles
returns-in-Err-clause-articles c =
    c.end.ensures ∙ ap (λ (articles : List Article). without_article articles c.args.word) c.in_ok-begin.ensures.ok
    ∙ new-taken-out c.args.word c.args.articles.now c.requires
