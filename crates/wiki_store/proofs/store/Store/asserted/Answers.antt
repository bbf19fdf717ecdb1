use Rattle.std.proofs.Common.{subst}
use Rattle.logic_terms.specs.Shown.{claims_of}
use Rattle.wiki_parts.specs.Holding.{Holding}
use Rattle.plain_wiki.specs.Knowledge.{Knows}
use Rattle.wiki_store.proofs.store.Store.asserted.Goals as goal

pub returns : goal.returns
returns c = subst (λ (h : Holding). Knows h.state (claims_of c.asserted.result.now)) c.self.view_is c.asserted.ensures
