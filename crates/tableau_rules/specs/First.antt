-- The first of numbers.
use Rattle.std.specs.Prelude.{ℕ, zero, suc, Bool, Option, Some, None, if◌then◌else◌}
use Rattle.std.specs.Option.{option_or}

-- what the first number below a bound gives, of those that give something
abbrev pub first_below : {X : Type 0} → ℕ → (ℕ → Option X) → Option X
first_below zero f = None
first_below (suc n) f = option_or (first_below n f) (f n)

-- a value where a test holds
abbrev pub where_true : {X : Type 0} → Bool → X → Option X
where_true test x = if test then Some x else None
