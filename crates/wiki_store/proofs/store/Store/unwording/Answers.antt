use Rattle.std.proofs.Common.{IfOk, subst}
use Rattle.std.specs.Option.{IsSomeAnd}
use Rattle.wiki_talk.specs.declared.replies.Reply.TheVariants as replies
use Rattle.articles.specs.Articles.{without_article}
use Rattle.wiki_parts.specs.Holding.{Holding}
use Rattle.plain_wiki.specs.Places.{word_with}
use Rattle.plain_wiki.specs.Doing.{RemovesWord}
use Rattle.wiki_store.proofs.store.Store.unwording.Goals as goal

pub returns-clause-removes : goal.returns-clause-removes
returns-clause-removes c =
    subst
    (λ (h : Holding). IfOk c.unwording.result (λ gone. IsSomeAnd (word_with h.state c.args.form.now)
    (λ word. RemovesWord word h.state replies.Unword
    (record h.state { words = gone.1; articles = without_article h.state.articles gone.0 }))))
    c.self.view_is c.unwording.ensures.removes
