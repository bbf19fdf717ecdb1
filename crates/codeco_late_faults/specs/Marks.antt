-- Sets of small numbers, as the list of what holds of 0, of 1 and so on. Only private calls speak of it.
use Rattle.std.specs.Prelude.{◌≡◌, ℕ, Bool, true, false, List, [], ◌∷◌, slice_set, replicate}

-- the set with these numbers too, as far as it has room
abbrev pub marked : List Bool → List ℕ → List Bool
marked set [] = set
marked set (x ∷ xs) = marked (slice_set set x true) xs

-- the set has these numbers and no others; it has room for those below the size
abbrev pub IsSetOf : ℕ → List Bool → List ℕ → Type 0
IsSetOf size set xs = set ≡ marked (replicate size false) xs
