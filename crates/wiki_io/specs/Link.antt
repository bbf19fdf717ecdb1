-- Connections that are opened, bring bytes and end, and bytes that are sent on them.
use Rattle.std.specs.Prelude.{◌≡◌, ℕ, ◌==◌, ◌<◌, ◌≤◌, Bool, true, false, not, List, [], ◌∷◌, ◌++◌, take, filter, flat_map, Option, Some, None, option_map, if◌then◌else◌, ⊤}
use Rattle.std.specs.List.{list_any}
use Rattle.wiki_io.specs.declared.links.Event.{Event}
use Rattle.wiki_io.specs.declared.links.Event.TheVariants.{Opened, Piece, Ended}
use Rattle.wiki_io.specs.declared.links.Next.{Next}
use Rattle.wiki_io.specs.declared.links.Next.TheVariants as next
use Rattle.wiki_io.specs.declared.sinks.Took.{Took}
use Rattle.wiki_io.specs.declared.sinks.Took.TheVariants as sinks

-- one that listens at whatever address it is asked to listens at each, or at none
unfoldable pub listens_anywhere : Bool → List ℕ → Bool
listens_anywhere is_listening address = is_listening

-- the connection is one of these
abbrev pub is_among : List ℕ → ℕ → Bool
is_among connections n = list_any (λ m. m == n) connections

-- these connections, without one
abbrev pub without : ℕ → List ℕ → List ℕ
without n connections = filter (λ m. not (m == n)) connections

-- The event may come while these connections are open: one that isn't open is opened, and one that is brings bytes or ends.
abbrev pub can_come : List ℕ → Event → Bool
can_come connections (Opened n) = not (is_among connections n)
can_come connections (Piece n bytes) = is_among connections n
can_come connections (Ended n) = is_among connections n

-- the connections that are open after an event
abbrev pub connections_after : List ℕ → Event → List ℕ
connections_after connections (Opened n) = connections ++ n ∷ []
connections_after connections (Piece n bytes) = connections
connections_after connections (Ended n) = without n connections

-- the connections that are open after some events, one after another
abbrev pub connections_after_all : List ℕ → List Event → List ℕ
connections_after_all connections [] = connections
connections_after_all connections (event ∷ events) = connections_after_all (connections_after connections event) events

-- each of the events may come when it comes
abbrev pub can_all_come : List ℕ → List Event → Bool
can_all_come connections [] = true
can_all_come connections (event ∷ events) = if can_come connections event then can_all_come (connections_after connections event) events else false

-- the event that an answer hands in, if it hands one in, where the buffer is as it is after the call
abbrev pub event_in : Next → List ℕ → List Event
event_in (next.Opened n) buffer = Opened n ∷ []
event_in (next.Bytes n size) buffer = Piece n (take size buffer) ∷ []
event_in (next.Ended n) buffer = Ended n ∷ []
event_in next.Over buffer = []
event_in next.Failed buffer = []

-- where bytes came, there is one at least, and no more than a buffer of this length holds
abbrev pub NextFits : Next → ℕ → Type 0
NextFits (next.Bytes n size) len = (0 < size) × (size ≤ len)
NextFits _ _ = ⊤

-- what was taken of a piece to be sent on a connection, if anything was
abbrev pub piece_taken : ℕ → Took → List ℕ → List (ℕ × List ℕ)
piece_taken n (sinks.Bytes size) piece = (n, take size piece) ∷ []
piece_taken n sinks.Failed piece = []

-- what is told, with more behind it
abbrev pub with_more : {X : Type 0} → Option (List X) → List X → Option (List X)
with_more told more = option_map (λ xs. xs ++ more) told

-- the bytes that were sent on a connection's number, in the order in which they were sent
abbrev pub sent_on : ℕ → List (ℕ × List ℕ) → List ℕ
sent_on n sent = flat_map (λ p. if p.0 == n then p.1 else []) sent

-- nothing is left, where that is told
abbrev pub IsOver : Option (List Event) → Type 0
IsOver None = ⊤
IsOver (Some events) = events ≡ []
