use Rattle.std.proofs.lemmas.List.Sorted.{answers_always}
use Rattle.std.proofs.Common.{rules}
use Rattle.sessions.proofs.PlaceLemmas.{searched}
use Rattle.sessions.proofs.sessions.Sessions.place_of.Goals as goal

-- the closure gives the number of a session, and the slice is the list of sessions
pub returns : goal.returns
returns c =
    let facts = c.binary_search_by_key.ensures in
    let by_number = facts.position (λ session. session.number.0) (answers_always _ _ _ (λ f a r g called. search rules)) in
    rw (c.ok.ensures.value, ← c.self.view_is, ← c.deref.ensures.value)
    (searched _ (rw c.deref.ensures.value c.self.invariant.in_order) c.args.number _ facts.bound by_number)
