-- How often names stand in a list. Only private calls speak of it.
use Rattle.std.specs.Prelude.{ℕ, nat_lt, count_by, Bool, List}
use Rattle.std.specs.List.{list_any}
use Rattle.codeco_text.specs.Names.{same_bytes}

-- some name stands in the list more than so many times
abbrev pub has_crowd : ℕ → List (List ℕ) → Bool
has_crowd most names = list_any (λ w. nat_lt most (count_by (same_bytes w) names)) names
