use Rattle.std.proofs.Common.{subst}
use Rattle.sessions.specs.Sessions.{AreSessions}
use Rattle.sessions.proofs.KeepingLaws.{kept_typeable, kept_by_word}
use Rattle.sessions.proofs.sessions.Sessions.as_slice.Goals as goal

pub returns-clause-typeable : goal.returns-clause-typeable
returns-clause-typeable c = λ g l h. kept_typeable g l c.args.self.now (subst AreSessions c.self.view_is c.self.invariant) h

pub returns-clause-word : goal.returns-clause-word
returns-clause-word c = λ g l forms same free h. kept_by_word g l forms c.args.self.now same free (subst AreSessions c.self.view_is c.self.invariant) h
