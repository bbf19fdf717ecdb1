-- Tests of the items at places.
use Rattle.std.proofs.Common.{◌≡◌, ℕ, zero, suc, ◌+◌, ◌<◌, Bool, true, false, List, [], ◌∷◌, length, arith, take, Option, Some, None, slice_get, refl}
use Rattle.std.specs.List.{list_any}
use Rattle.tableau_rules.specs.Clashes.{passes}
use Rattle.logic_terms.proofs.Places.{some_more, some_passes}

there_is : {X : Type 0} (xs : List X) (i : ℕ) → i < length xs → slice_get xs i ≡ None → ⊥
there_is [] i lt e = absurd (omega arith)
there_is (x ∷ xs) zero lt e = cc
there_is (x ∷ xs) (suc i) lt e = there_is xs i (omega arith) e

module _ {X : Type 0} (test : X → Bool) (xs : List X) (i : ℕ) where
  pub passes_any : passes (slice_get xs i) test ≡ true → list_any test xs ≡ true
  passes_any h = go (slice_get xs i) refl h
    where
      go : (o : Option X) → slice_get xs i ≡ o → passes o test ≡ true → list_any test xs ≡ true
      go None e p = cc
      go (Some x) e p = some_passes test xs i x e p

  pub passes_more : i < length xs → list_any test (take i xs) ≡ false → passes (slice_get xs i) test ≡ false → list_any test (take (i + 1) xs) ≡ false
  passes_more lt passed h = go (slice_get xs i) refl h
    where
      go : (o : Option X) → slice_get xs i ≡ o → passes o test ≡ false → list_any test (take (i + 1) xs) ≡ false
      go None e p = absurd (there_is xs i lt e)
      go (Some x) e p = some_more test xs i x e passed p
