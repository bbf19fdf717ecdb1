-- Numbers that stand twice in a list, above all in one that is in order.
use Rattle.std.proofs.Common.{◌≡◌, ℕ, suc, ◌+◌, ◌≤◌, Bool, true, false, ◌||◌, eqb, ltb, leb, List, [], ◌∷◌, length, refl, sym, ap, ◌∙◌, arith, inl, inr, Option, Some, None}
use Rattle.std.specs.Option.{option_map_or}
use Rattle.std.specs.Prelude.{if◌then◌else◌}
use Rattle.std.proofs.lemmas.Bool.{cases_Bool, and_parts, or_cases, or_left, ltb-true, ltb-false, lt-ltb, le-ltb, leb-true, eqb-true, eq-eqb}
use Rattle.codeco_checked.proofs.NumberingLemmas.{ascends_tail}
use Rattle.codeco_checked.specs.Numbering.{has, count_different}
use Rattle.codeco_checked.specs.Faults.{is_double}
use Rattle.codeco_checked.specs.Sound.{ascends}

different_le : (xs : List ℕ) → count_different xs ≤ length xs
different_le [] = omega arith
different_le (x ∷ xs) = more (has xs x) (different_le xs)
  where
    more : (b : Bool) → count_different xs ≤ length xs → count_different xs + (if b then 0 else 1) ≤ suc (length xs)
    more true h = omega arith
    more false h = omega arith

-- a number stands twice if the first one does, or one of the others
pub double_cons : (x : ℕ) (xs : List ℕ) → is_double (x ∷ xs) ≡ (has xs x || is_double xs)
double_cons x xs = more (has xs x) (different_le xs)
  where
    more : (b : Bool) → count_different xs ≤ length xs
        → ltb (count_different xs + (if b then 0 else 1)) (suc (length xs)) ≡ (b || ltb (count_different xs) (length xs))
    more true h = lt-ltb (count_different xs + 0) (suc (length xs)) (omega arith)
    more false h =
        elim (cases_Bool (ltb (count_different xs) (length xs))) [
          | inl low ↦ let lt = ltb-true (count_different xs) (length xs) low in lt-ltb (count_different xs + 1) (suc (length xs)) (omega arith) ∙ sym low
          | inr high ↦ let le = ltb-false (count_different xs) (length xs) high in le-ltb (count_different xs + 1) (suc (length xs)) (omega arith) ∙ sym high
        ]

-- where a list is in order, what is in it isn't below the first
pub from_first : (x : ℕ) (xs : List ℕ) (z : ℕ) → ascends (x ∷ xs) ≡ true → has xs z ≡ true → x ≤ z
from_first x [] z h k = absurd cc
from_first x (y ∷ ys) z h k =
    let parts = and_parts (leb x y) (ascends (y ∷ ys)) h in
    let le = leb-true x y parts.0 in
    elim (or_cases (eqb z y) (has ys z) k) [
      | inl same ↦ let e = eqb-true z y same in omega arith
      | inr later ↦ let rest = from_first y ys z parts.1 later in omega arith
    ]

-- Neighbours

-- a number equals the one before it
abbrev pub repeats_after : Option ℕ → List ℕ → Bool
repeats_after last [] = false
repeats_after last (x ∷ xs) = option_map_or (λ y. eqb y x) last false || repeats_after (Some x) xs

repeats_next : (y : ℕ) (xs : List ℕ) → ascends (y ∷ xs) ≡ true → repeats_after (Some y) xs ≡ is_double (y ∷ xs)
repeats_next y [] h = refl
repeats_next y (x ∷ xs) h =
    let rest = repeats_next x xs (ascends_tail y (x ∷ xs) h) in
    ap (λ b. eqb y x || b) rest ∙ ap (λ b. b || is_double (x ∷ xs)) (sym only) ∙ sym (double_cons y (x ∷ xs))
  where
    only : (eqb y x || has xs y) ≡ eqb y x
    only =
        elim (cases_Bool (has xs y)) [
          | inl later ↦
              let le = leb-true y x (and_parts (leb y x) (ascends (x ∷ xs)) h).0 in
              let ge = from_first x xs y (ascends_tail y (x ∷ xs) h) later in
              or_left (eqb y x) (has xs y) (eq-eqb y x (omega arith)) ∙ sym (eq-eqb y x (omega arith))
          | inr none ↦ or_none (eqb y x) (has xs y) none
        ]
      where
        or_none : (a b : Bool) → b ≡ false → (a || b) ≡ a
        or_none true b e = refl
        or_none false b e = e

-- in order, a number stands twice where it equals its neighbour
pub repeats_is : (xs : List ℕ) → ascends xs ≡ true → repeats_after None xs ≡ is_double xs
repeats_is [] h = refl
repeats_is (x ∷ xs) h = repeats_next x xs h
