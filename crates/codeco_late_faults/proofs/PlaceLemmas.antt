-- First places.
use Rattle.std.proofs.Common.{◌≡◌, ℕ, ◌+◌, ◌<◌, ◌≤◌, List, [], ◌∷◌, length, get_or, sym, ap, ◌∙◌, subst, arith, inl, inr, Some, None, Option}
use Rattle.std.specs.Prelude.{slice_get}
use Rattle.std.proofs.lemmas.Bool.{cases_lt}
use Rattle.std.proofs.lemmas.Option.{same_Some, slice_get_within}
use Rattle.wiki_base.proofs.ListLaws.{slice_get_at}
use Rattle.codeco_late_faults.specs.First.{IsNowhere, IsFirstPlace, FindsFirst}

-- what holds of the same items has the same first place
pub finds_same : {X : Type 0} (P Q : X → Type 0) (xs : List X) (found : Option ℕ) → ((x : X) → P x → Q x) → ((x : X) → Q x → P x) → FindsFirst P xs found
    → FindsFirst Q xs found
finds_same P Q xs None f g h = λ k x e q. h k x e (g x q)
finds_same P Q xs (Some place) f g h = record {
  here = (h.here.0, h.here.1, f h.here.0 h.here.2);
  before = λ k x lt e q. h.before k x lt e (g x q);
}

-- it is so at none of the first places
abbrev pub NotBefore : {X : Type 0} → (X → Type 0) → List X → ℕ → Type 0
NotBefore {X} P xs i = (k : ℕ) (x : X) → k < i → slice_get xs k ≡ Some x → P x → ⊥

pub not_before_more : {X : Type 0} (P : X → Type 0) (xs : List X) (i : ℕ) (y : X) → i < length xs → y ≡ get_or xs i y → (P y → ⊥) → NotBefore P xs i
    → NotBefore P xs (i + 1)
not_before_more P xs i y lt is here below = λ k x less e p.
    elim (cases_lt k i) [
      | inl before ↦ below k x before e p
      | inr after ↦
          let same : k ≡ i = omega arith in
          here (subst P (same_Some x y (sym e ∙ ap (slice_get xs) same ∙ slice_get_at xs i y lt is)) p)
    ]

pub first_here : {X : Type 0} (P : X → Type 0) (xs : List X) (i : ℕ) (y : X) → i < length xs → y ≡ get_or xs i y → P y → NotBefore P xs i → IsFirstPlace P xs i
first_here P xs i y lt is here below = record {
  here = (y, slice_get_at xs i y lt is, here);
  before = below;
}

pub nowhere : {X : Type 0} (P : X → Type 0) (xs : List X) (i : ℕ) → length xs ≤ i → NotBefore P xs i → IsNowhere P xs
nowhere P xs i long below = λ k x e p. let lt = slice_get_within xs k x e in below k x (omega arith) e p

pub first_below : {X : Type 0} (P : X → Type 0) (xs : List X) (i : ℕ) → IsFirstPlace P xs i → i < length xs
first_below P xs i first = slice_get_within xs i first.here.0 first.here.1
