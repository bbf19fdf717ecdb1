use Rattle.std.proofs.Common.{take, All}
use Rattle.editor.specs.Editing.{IsEdited}
use Rattle.sessions.specs.declared.session.Session.{Session}
use Rattle.plain_wiki.specs.Sessions.{AreRebased}
use Rattle.sessions.specs.Sessions.{all_plain, AreKept}
use Rattle.sessions.proofs.sessions.Sessions.rebased.Given as goal

-- the sessions so far are rebased
abbrev pub invariant-loop-session : goal.invariant-loop-session
invariant-loop-session l =
    AreRebased l.grammar l.lexicon (all_plain (take l.session-index l.session-items)) (all_plain l.sessions.items)
    × AreKept l.grammar l.lexicon l.sessions.items
    × All (λ (session : Session). IsEdited session.editor) l.sessions.items
