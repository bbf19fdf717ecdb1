use Rattle.std.proofs.Common.{subst}
use Rattle.wiki_core.specs.Holding.{IsKept}
use Rattle.wiki_core.proofs.HeldLemmas.{is_kept}
use Rattle.wiki_core.proofs.wiki.Wiki.is_kept.Goals as goal

pub returns : goal.returns
returns c =
    subst IsKept c.self.view_is
    (is_kept c.self.inside.store.state c.self.inside.store.budget c.self.inside.store.interpretation c.self.inside.sessions c.self.inside.last c.is_kept.ensures
    c.as_slice.ensures.order
    c.self.invariant)
