-- The first place of a list at which something is so. Only private calls speak of it.
use Rattle.std.specs.Prelude.{◌≡◌, ℕ, ◌<◌, List, Option, Some, slice_get, MatchOption}

-- it is so nowhere in the list
abbrev pub IsNowhere : {X : Type 0} → (X → Type 0) → List X → Type 0
IsNowhere {X} P xs = (k : ℕ) (x : X) → slice_get xs k ≡ Some x → P x → ⊥

-- it is so at this place, and at no earlier one
pub record IsFirstPlace {X : Type 0} (P : X → Type 0) (xs : List X) (place : ℕ) : Type 0 where
  pub here : (x : X) × (slice_get xs place ≡ Some x) × P x
  pub before : (k : ℕ) (x : X) → k < place → slice_get xs k ≡ Some x → P x → ⊥

-- the first place at which it is so, or none where it is so nowhere
abbrev pub FindsFirst : {X : Type 0} → (X → Type 0) → List X → Option ℕ → Type 0
FindsFirst P xs found = MatchOption found (IsNowhere P xs) (λ place. IsFirstPlace P xs place)
