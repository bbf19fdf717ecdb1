-- What a reading or a writing comes to.
use Rattle.std.specs.Prelude.{ℕ, ◌<◌, ◌≤◌, ⊤}
use Rattle.socket_link.specs.declared.socket.Moved.{Moved}
use Rattle.socket_link.specs.declared.socket.Moved.TheVariants as moved

-- where bytes were moved, there is one at least, and no more than there was room for, or than there were
abbrev pub MovedFits : Moved → ℕ → Type 0
MovedFits moved.Nothing len = ⊤
MovedFits (moved.Bytes size) len = (0 < size) × (size ≤ len)
MovedFits moved.End len = ⊤
