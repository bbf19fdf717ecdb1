-- The reflexive and transitive closure of a relation.
use Rattle.std.specs.Prelude.{ℕ, zero, suc, ◌≡◌}

-- z is reached from x by this number of steps
abbrev pub Chain : {A : Type 0} → (A → A → Type 0) → ℕ → A → A → Type 0
Chain step zero x z = x ≡ z
Chain {A} step (suc n) x z = (y : A) × Chain step n x y × step y z

-- z is reached from x by some number of steps
abbrev pub Reaches : {A : Type 0} → (A → A → Type 0) → A → A → Type 0
Reaches step x z = (n : ℕ) × Chain step n x z
