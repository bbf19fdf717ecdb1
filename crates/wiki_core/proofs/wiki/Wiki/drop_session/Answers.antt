use Rattle.sessions.specs.Sessions.{plain, all_plain}
use Rattle.std.proofs.Common.{◌≡◌, Some, ap, sym, subst}
use Rattle.plain_wiki.specs.Sessions.{PlainSession, session_of}
use Rattle.plain_wiki.specs.Places.{session_numbered}
use Rattle.wiki_parts.specs.Spending.{IsCutOff}
use Rattle.wiki_core.specs.Holding.{Holding}
use Rattle.wiki_core.proofs.SessionLemmas.{drop_step, with_sessions}
use Rattle.wiki_core.proofs.HeldLemmas.{held_without}
use Rattle.plain_wiki.specs.State.{State}
use Rattle.wiki_core.proofs.wiki.Wiki.drop_session.Goals as goal

pub invariant_of-self : goal.invariant_of-self
invariant_of-self c =
    let stored = c.self.inside.store.state in
    held_without stored c.self.inside.sessions c.end.new.self c.self.inside.last (record { 0 = c.args.number }) c.self.invariant
    (c.end.ensures.kept stored.grammar stored.words c.self.invariant.kept) c.end.ensures.ended

pub returns-clause-step : goal.returns-clause-step
returns-clause-step c =
    let stored = c.self.inside.store.state in
    let old : State = record { stored = stored; sessions = all_plain c.self.inside.sessions; last = c.self.inside.last } in
    let session = plain c.in_ok-session.field-0.now in
    let found : session_of (all_plain c.self.inside.sessions) (record { 0 = c.args.number }) ≡ Some session =
    subst (λ (h : Holding). session_numbered h.state c.args.number ≡ Some session) (sym c.self.view_is) c.in_ok-session.ensures.found in
    rw (sym c.self.view_is) (drop_step (IsCutOff c.self.inside.store.budget) old (with_sessions old (all_plain c.end.new.self)) c.args.number session found
    (ap (with_sessions old) c.end.ensures.ended))
