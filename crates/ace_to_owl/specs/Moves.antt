-- Labels that move one after another, for the private calls that compare them.
use Rattle.std.specs.List.{list_any}
use Rattle.std.specs.Prelude.{ℕ, ◌==◌, List, [], ◌∷◌, if◌then◌else◌}

-- a label that moves where it is the first
abbrev pub moved : ℕ → ℕ → ℕ → ℕ
moved from to n = if n == from then to else n

-- what it comes to by several moves
abbrev pub moved_by : List (ℕ × ℕ) → ℕ → ℕ
moved_by [] n = n
moved_by (e ∷ es) n = moved_by es (moved e.0 e.1 n)

-- labels after those of a group's members have become that of the first
abbrev pub gathered : (ℕ → ℕ) → List ℕ → ℕ → ℕ
gathered label [] n = label n
gathered label (q ∷ qs) n = if list_any (λ r. label r == label n) (q ∷ qs) then label q else label n
