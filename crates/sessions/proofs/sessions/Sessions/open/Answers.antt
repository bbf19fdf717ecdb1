use Rattle.std.proofs.Common.{◌<◌, List, [], length, All, subst, sym}
use Rattle.editor.proofs.EditingLemmas.{kept_on}
use Rattle.sessions.specs.declared.session.Session.{Session}
use Rattle.wiki_talk.specs.declared.limits.TheConstants.{MOST_SESSIONS}
use Rattle.plain_wiki.specs.Sessions.{PlainSession}
use Rattle.sessions.specs.Sessions.{all_plain, AreKept, AreSessions}
use Rattle.sessions.proofs.ChangeLemmas.{opened_sessions, opened_kept}
use Rattle.sessions.proofs.sessions.Sessions.open.Goals as goal

pub invariant_of-self-2 : goal.invariant_of-self-2
invariant_of-self-2 c =
    let room : length (all_plain c.self.inside.sessions.items) < MOST_SESSIONS =
    subst (λ (xs : List Session). length (all_plain xs) < MOST_SESSIONS) (sym c.self.view_is) c.requires.room in
    let below : All (λ (other : PlainSession). other.number.0 < c.args.number.0) (all_plain c.self.inside.sessions.items) =
    subst (λ (xs : List Session). All (λ (other : PlainSession). other.number.0 < c.args.number.0) (all_plain xs)) (sym c.self.view_is) c.requires.next
    in
    subst AreSessions (sym c.in_ok-push.ensures.items)
    (opened_sessions c.self.inside.sessions.items _ c.self.invariant room below c.in_ok-editor.ensures.edited)

pub returns-clause-kept : goal.returns-clause-kept
returns-clause-kept c = λ l h.
    subst (AreKept c.args.grammar.now l) (sym c.in_ok-push.ensures.items)
    (opened_kept c.args.grammar.now l c.self.inside.sessions.items _ (subst (AreKept c.args.grammar.now l) (sym c.self.view_is) h)
    (kept_on c.args.grammar.now l c.in_ok-editor.editor [] c.in_ok-editor.ensures.empty))
