use Rattle.std.proofs.Common.{subst}
use Rattle.wiki_talk.specs.declared.requests.ArticleRequest.TheVariants as of_article
use Rattle.wiki_parts.specs.Holding.{Holding}
use Rattle.wiki_store.specs.Asking.{taken_by}
use Rattle.wiki_store.specs.Spending.{SpendsBeyond}
use Rattle.wiki_store.proofs.store.Store.add.Goals as goal

pub returns-clause-spent : goal.returns-clause-spent
returns-clause-spent c =
    subst (λ (h : Holding). SpendsBeyond h (taken_by h.state c.args.form.now (of_article.Add c.args.given c.args.text.now)) c.in_ok-reply.reply) c.self.view_is
    c.in_ok-reply.ensures.spent
