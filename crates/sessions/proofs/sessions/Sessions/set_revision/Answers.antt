use Rattle.std.proofs.Common.{refl}
use Rattle.plain_wiki.specs.Sessions.{with_revision}
use Rattle.sessions.proofs.ChangeLemmas.{kept_at, edited_at, change_is, kept_after, still_sessions}
use Rattle.sessions.proofs.sessions.Sessions.set_revision.Goals as goal

pub invariant_of-self : goal.invariant_of-self
invariant_of-self c =
    still_sessions _ _ c.self.view_is c.self.invariant _ _ c.place_there-place.ensures _ c.index_mut.ensures.value _ refl
    (edited_at _ _ c.self.view_is c.self.invariant _ _ c.place_there-place.ensures _ c.index_mut.ensures.value)

pub returns-clause-set : goal.returns-clause-set
returns-clause-set c = change_is _ _ c.self.view_is c.self.invariant _ _ c.place_there-place.ensures _ c.index_mut.ensures.value (with_revision c.args.revision)
    _ refl

pub returns-clause-kept : goal.returns-clause-kept
returns-clause-kept c = λ g l h.
    kept_after _ _ c.self.view_is c.self.invariant _ _ c.place_there-place.ensures _ c.index_mut.ensures.value g l _ h
    (kept_at _ _ c.self.view_is c.self.invariant _ _ c.place_there-place.ensures _ c.index_mut.ensures.value g l h)
