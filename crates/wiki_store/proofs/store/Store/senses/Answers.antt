use Rattle.std.proofs.Common.{subst}
use Rattle.wiki_parts.specs.Holding.{Holding}
use Rattle.wiki_parts.specs.Kept.{MeanInEach}
use Rattle.wiki_store.proofs.store.Store.senses.Goals as goal

pub returns : goal.returns
returns c =
    subst (λ (h : Holding). MeanInEach h.state.grammar h.state.words h.state.articles c.senses.result.now) c.self.view_is c.senses.ensures
