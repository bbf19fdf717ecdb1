use Rattle.std.proofs.Common.{subst}
use Rattle.wiki_parts.specs.Holding.{Holding}
use Rattle.wiki_parts.specs.Found.{meaning_shown}
use Rattle.wiki_store.specs.Settled.{IsTrueIn}
use Rattle.wiki_store.proofs.base.Base.put.Goals as goal

pub put_true-requires-clause-settled : goal.put_true-requires-clause-settled
put_true-requires-clause-settled c =
    subst (λ (h : Holding). IsTrueIn h.interpretation (meaning_shown c.args.change.sense)) c.self.view_is (c.is_settled.ensures c.if-is_settled.true)
