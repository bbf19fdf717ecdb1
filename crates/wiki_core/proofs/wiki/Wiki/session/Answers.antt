use Rattle.std.proofs.Common.{sym}
use Rattle.wiki_core.proofs.wiki.Wiki.session.Goals as goal

pub returns-in-Some-clause-kept : goal.returns-in-Some-clause-kept
returns-in-Some-clause-kept c = rw (sym c.self.view_is)
    (c.in-Some.ensures.kept c.self.inside.store.state.grammar c.self.inside.store.state.words c.self.invariant.kept)
