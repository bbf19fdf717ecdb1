use Rattle.std.proofs.Common.{sym}
use Rattle.sessions.proofs.ChangeLemmas.{found_is, kept_at, edited_at}
use Rattle.sessions.proofs.sessions.Sessions.session.Goals as goal

pub returns-in-Some-clause-found : goal.returns-in-Some-clause-found
returns-in-Some-clause-found c = sym (found_is _ _ c.self.view_is c.self.invariant _ _ c.in-Some.ensures _ c.index.ensures)

pub returns-in-Some-clause-kept : goal.returns-in-Some-clause-kept
returns-in-Some-clause-kept c = λ g l h. kept_at _ _ c.self.view_is c.self.invariant _ _ c.in-Some.ensures _ c.index.ensures g l h

pub returns-in-Some-clause-edited : goal.returns-in-Some-clause-edited
returns-in-Some-clause-edited c = edited_at _ _ c.self.view_is c.self.invariant _ _ c.in-Some.ensures _ c.index.ensures
