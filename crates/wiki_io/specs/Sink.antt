-- What one `write` to a sink takes.
use Rattle.std.specs.Prelude.{ℕ, Bool, true, false, ◌<◌, ◌≤◌, List, [], take, ⊤}
use Rattle.wiki_io.specs.declared.sinks.Took.{Took}
use Rattle.wiki_io.specs.declared.sinks.Took.TheVariants.{Bytes, Failed}

-- of the piece that was handed in, the bytes that were taken
abbrev pub bytes_taken : Took → List ℕ → List ℕ
bytes_taken (Bytes n) piece = take n piece
bytes_taken Failed piece = []

-- the write failed
abbrev pub is_failure : Took → Bool
is_failure (Bytes n) = false
is_failure Failed = true

-- where bytes were taken, there is one at least, and no more than a piece of this length has
abbrev pub TookFits : Took → ℕ → Type 0
TookFits (Bytes n) len = (0 < n) × (n ≤ len)
TookFits Failed len = ⊤

-- a fact of the number of bytes that were taken
abbrev pub IfTook : Took → (ℕ → Type 0) → Type 0
IfTook (Bytes n) P = P n
IfTook Failed P = ⊤
