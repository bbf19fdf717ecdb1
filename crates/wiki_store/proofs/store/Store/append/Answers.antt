use Rattle.std.proofs.Common.{subst}
use Rattle.wiki_parts.specs.Holding.{Holding}
use Rattle.wiki_store.specs.Spending.{SpendsAtEnd}
use Rattle.wiki_store.proofs.store.Store.append.Goals as goal

pub returns-clause-spent : goal.returns-clause-spent
returns-clause-spent c =
    subst (λ (h : Holding). SpendsAtEnd h c.args.word c.args.tokens.now c.in_ok-status.status) c.self.view_is c.in_ok-status.ensures.spent
