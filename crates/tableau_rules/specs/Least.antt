-- The lesser of numbers. Only private calls speak of it.
use Rattle.std.specs.Prelude.{ℕ, Option, Some, None, min}
use Rattle.std.specs.Option.{option_map_or}

-- of two that there may be
abbrev pub lesser_of : Option ℕ → Option ℕ → Option ℕ
lesser_of one None = one
lesser_of one (Some other) = Some (option_map_or (λ own. min own other) one other)
