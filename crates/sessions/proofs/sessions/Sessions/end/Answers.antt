use Rattle.std.proofs.Common.{◌∙◌, ap, subst, sym}
use Rattle.sessions.specs.Sessions.{all_plain, AreKept, AreSessions}
use Rattle.sessions.proofs.ChangeLemmas.{removed_is, removed_sessions, kept_removed}
use Rattle.sessions.proofs.sessions.Sessions.end.Goals as goal

pub invariant_of-self : goal.invariant_of-self
invariant_of-self c = subst AreSessions (sym c.remove.ensures.items) (removed_sessions _ _ c.self.view_is c.self.invariant _ _ c.place_there-place.ensures)

pub returns-clause-ended : goal.returns-clause-ended
returns-clause-ended c = ap all_plain c.remove.ensures.items ∙ removed_is _ _ c.self.view_is c.self.invariant _ _ c.place_there-place.ensures

pub returns-clause-kept : goal.returns-clause-kept
returns-clause-kept c = λ g l h. subst (AreKept g l) (sym c.remove.ensures.items) (kept_removed _ _ c.self.view_is c.place_there-place.result g l h)
