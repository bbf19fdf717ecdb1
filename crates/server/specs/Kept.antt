-- The connections that a server keeps, in the order of their opening.
use Rattle.std.specs.Prelude.{ℕ, ◌==◌, not, List, [], ◌∷◌, ◌++◌, map, filter, if◌then◌else◌}

-- a connection: its number, and the bytes that have come over it since its opening
pub record Kept : Type 0 where
  pub number : ℕ
  pub bytes : List ℕ

-- the numbers of connections
abbrev pub numbers : List Kept → List ℕ
numbers kept = map (λ c. c.number) kept

-- a connection over which nothing has come
abbrev pub fresh : ℕ → Kept
fresh n = record { number = n; bytes = [] }

-- the bytes that have come over the connection with this number; none where it isn't kept
abbrev pub bytes_of : ℕ → List Kept → List ℕ
bytes_of n [] = []
bytes_of n (c ∷ kept) = if c.number == n then c.bytes else bytes_of n kept

-- these connections, with a piece more of the one with this number
abbrev pub with_piece : ℕ → List ℕ → List Kept → List Kept
with_piece n piece [] = []
with_piece n piece (c ∷ kept) = if c.number == n then record c { bytes = c.bytes ++ piece } ∷ kept else c ∷ with_piece n piece kept

-- these connections, without the one with this number
abbrev pub closed : ℕ → List Kept → List Kept
closed n kept = filter (λ c. not (c.number == n)) kept
