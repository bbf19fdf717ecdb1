-- What a server has read of the bytes of its connections.
use Rattle.std.specs.Prelude.{◌≡◌, ℕ, List, All, IfSome, map}
use Rattle.http_front.specs.declared.seen.Seen.{Seen}
use Rattle.http_front.specs.declared.seen.Begun.TheVariants as begun
use Rattle.http_front.specs.Front.{Begins, Sees}
use Rattle.server.specs.declared.connections.Connection.{Connection}
use Rattle.server.specs.declared.turns.Turn.{Turn}
use Rattle.server.specs.Kept.{Kept}
use Rattle.server.specs.Taking.{turn_of}

-- a connection as it is seen: its number and its bytes
abbrev pub shown : Connection → Kept
shown c = record { number = c.number; bytes = c.bytes }

-- where a head is kept, the bytes begin with it
abbrev pub IsRead : Connection → Type 0
IsRead c = IfSome c.head (λ head. Begins c.bytes (begun.Head head))

-- the turn is what the bytes of the connection with this number are
pub record IsSeen (n : ℕ) (bytes : List ℕ) (turn : Turn) : Type 0 where
  pub seen : Seen
  pub sees : Sees bytes seen
  pub turn_is : turn ≡ turn_of n seen
