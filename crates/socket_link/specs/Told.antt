-- What sockets tell of one call: events of connections, and deeds.
use Rattle.std.specs.Prelude.{ℕ, Bool, true, false, List, [], ◌∷◌, take, Option, Some, None}
use Rattle.std.specs.declared.time.Duration.{Duration}
use Rattle.std.specs.Duration.{as_nanos}
use Rattle.wiki_io.specs.declared.links.Event.{Event}
use Rattle.wiki_io.specs.declared.links.Event.TheVariants.{Opened, Piece}
use Rattle.socket_link.specs.declared.socket.Moved.{Moved}
use Rattle.socket_link.specs.declared.socket.Moved.TheVariants as moved
use Rattle.socket_link.specs.Deeds.{Deed, Shows, Opens, Writes, Fails, with_deed}

-- a socket got this number, if it did
abbrev pub opening_of : ℕ → Bool → List Event
opening_of n true = Opened n ∷ []
opening_of n false = []

-- what was read from the socket of this number, if anything was, where the buffer is as it is after the call
abbrev pub piece_of : ℕ → Moved → List ℕ → List Event
piece_of n (moved.Bytes size) buffer = Piece n (take size buffer) ∷ []
piece_of n moved.Nothing buffer = []
piece_of n moved.End buffer = []

-- with what the clock showed, if it did
abbrev pub with_time : Option (List Deed) → Option Duration → Option (List Deed)
with_time told (Some time) = with_deed told (Shows (as_nanos time))
with_time told None = told

-- with a socket's number, if one got it
abbrev pub with_opening : Option (List Deed) → ℕ → Bool → Option (List Deed)
with_opening told n true = with_deed told (Opens n)
with_opening told n false = told

-- with what was written of these bytes, if anything was, or that the socket has failed
abbrev pub with_writing : Option (List Deed) → ℕ → Moved → List ℕ → Option (List Deed)
with_writing told n (moved.Bytes size) bytes = with_deed told (Writes n (take size bytes))
with_writing told n moved.Nothing bytes = told
with_writing told n moved.End bytes = with_deed told (Fails n)

-- these bytes with a number, if they were taken
abbrev pub taken_if : Bool → ℕ → List ℕ → List (ℕ × List ℕ)
taken_if true n bytes = (n, bytes) ∷ []
taken_if false n bytes = []
