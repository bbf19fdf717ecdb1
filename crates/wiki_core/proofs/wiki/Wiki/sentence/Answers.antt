use Rattle.std.proofs.Common.{IfSome, sym, subst}
use Rattle.wiki_parts.specs.Holding.{IsStored}
use Rattle.wiki_store.proofs.KeepingLemmas.{each_there}
use Rattle.wiki_core.specs.Holding.{Holding}
use Rattle.wiki_core.proofs.PartLemmas.{each_got}
use Rattle.wiki_core.proofs.wiki.Wiki.sentence.Goals as goal

pub returns-in-Some-clause-stored : goal.returns-in-Some-clause-stored
returns-in-Some-clause-stored c =
    let state = c.self.inside.store.state in
    let article = c.in-Some.article.now in
    subst (λ (h : Holding). IfSome c.get.result (λ sentence. IsStored h.state.stored sentence.now)) c.self.view_is
    (each_got (IsStored state) c.as_slice.result.now c.args.at _ _ c.get.result c.get.ensures.lookup.1 c.get.ensures.lookup.3
    (rw c.as_slice.ensures
    (each_there (IsStored state) state.articles c.args.article article (sym c.in-Some.ensures.found) c.is_kept.ensures.stored)))
