-- Links in memory: scripted events that come where they can, and calls that fail where that is asked for.
use Rattle.std.specs.Prelude.{◌≡◌, ℕ, ◌==◌, min, nat_lt, Bool, true, List, [], ◌∷◌, ◌++◌, length, drop, if◌then◌else◌}
use Rattle.std.specs.List.{list_any}
use Rattle.wiki_io.specs.declared.links.Event.{Event}
use Rattle.wiki_io.specs.declared.links.Event.TheVariants.{Opened, Piece, Ended}
use Rattle.wiki_io.specs.declared.links.Next.{Next}
use Rattle.wiki_io.specs.declared.links.Next.TheVariants as next
use Rattle.wiki_io.specs.Link.{can_come, connections_after_all}
use Rattle.wiki_io.specs.Memory.{one_more}

pub record HeldLink : Type 0 where
  -- it listens, at whatever address it was asked to
  pub is_listening : Bool
  -- the scripted events that are left, and those that were handed in
  pub script : List Event
  pub handed : List Event
  -- the connections that are open, and what was taken to be sent on each
  pub connections : List ℕ
  pub sent : List (ℕ × List ℕ)
  -- the most bytes of one `send`
  pub largest : ℕ
  -- the numbers of the calls that are to fail, of each method by itself
  pub listen_fails : List ℕ
  pub next_fails : List ℕ
  pub send_fails : List ℕ
  -- how many calls there were, and how many failed
  pub listens : ℕ
  pub nexts : ℕ
  pub sends : ℕ
  pub faults : ℕ
  pub send_faults : ℕ

-- a piece has at least one byte
abbrev pub is_whole : Event → Bool
is_whole (Opened n) = true
is_whole (Piece n bytes) = nat_lt 0 (length bytes)
is_whole (Ended n) = true

-- the events from the first that can come while these connections are open
abbrev pub coming : List ℕ → List Event → List Event
coming connections [] = []
coming connections (event ∷ events) = if can_come connections event then event ∷ events else coming connections events

-- the call after so many is one of those that are to fail
abbrev pub fails_next : ℕ → List ℕ → Bool
fails_next calls fails = list_any (λ k. k == one_more calls) fails

-- what is handed in of the events, into a buffer of this length
abbrev pub next_of : List Event → ℕ → Next
next_of [] room = next.Over
next_of (Opened n ∷ events) room = next.Opened n
next_of (Piece n bytes ∷ events) room = next.Bytes n (min (length bytes) room)
next_of (Ended n ∷ events) room = next.Ended n

-- these events behind what is left of a piece, if anything is
abbrev pub with_rest : ℕ → List ℕ → List Event → List Event
with_rest n [] events = events
with_rest n (b ∷ bytes) events = Piece n (b ∷ bytes) ∷ events

-- the events that are left then: of a piece that is longer than the buffer the rest
abbrev pub after_next : List Event → ℕ → List Event
after_next [] room = []
after_next (Opened n ∷ events) room = events
after_next (Piece n bytes ∷ events) room = with_rest n (drop room bytes) events
after_next (Ended n ∷ events) room = events

-- the first event, if there is one, can come
abbrev pub begins_well : List ℕ → List Event → Bool
begins_well connections [] = true
begins_well connections (event ∷ events) = can_come connections event

-- these events were handed in, and nothing else has changed but the script
pub record HandsIn (old : HeldLink) (events : List Event) (new : HeldLink) : Type 0 where
  pub listening : new.is_listening ≡ old.is_listening
  pub handed : new.handed ≡ old.handed ++ events
  pub connections : new.connections ≡ connections_after_all old.connections events
  pub sent : new.sent ≡ old.sent
  pub largest : new.largest ≡ old.largest
  pub fails : (new.listen_fails ≡ old.listen_fails) × (new.next_fails ≡ old.next_fails) × (new.send_fails ≡ old.send_fails)
  pub calls : (new.listens ≡ old.listens) × (new.nexts ≡ old.nexts) × (new.sends ≡ old.sends)
  pub faults : new.faults ≡ old.faults
  pub send_faults : new.send_faults ≡ old.send_faults
