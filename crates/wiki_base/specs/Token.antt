-- The pieces that a sentence is cut into.
use Rattle.std.specs.Prelude.{◌≡◌, ℕ, ◌<◌, Bool, true, not, ◌==◌, List, length}
use Rattle.std.specs.List.{list_all}

-- no byte is a space
abbrev pub has_no_space : List ℕ → Bool
has_no_space bytes = list_all (λ b. not (b == 32)) bytes

-- a token has at least one byte, and no space
abbrev pub IsToken : List ℕ → Type 0
IsToken bytes = (0 < length bytes) × (has_no_space bytes ≡ true)
