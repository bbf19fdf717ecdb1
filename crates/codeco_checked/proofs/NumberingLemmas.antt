-- Numbers that are given by first occurrence, in order, or among others.
use Rattle.std.proofs.Common.{◌≡◌, ℕ, ◌+◌, ◌≤◌, Bool, true, ◌&&◌, eqb, ltb, leb, List, [], ◌∷◌, refl, sym, ap, ◌∙◌, arith, inl, inr}
use Rattle.std.specs.List.{list_all}
use Rattle.std.proofs.lemmas.Bool.{cases_Bool, cond-true, cond-false, and_parts, and_from, or_cases, eqb-true, ltb-true, lt-ltb}
use Rattle.codeco_checked.specs.Numbering.{has, counts_up}
use Rattle.codeco_checked.specs.Sound.{ascends}

-- numbers given by first occurrence are below how many there are
pub counted : (next total : ℕ) (xs : List ℕ) → counts_up next total xs ≡ true → (next ≤ total) × (list_all (λ x. ltb x total) xs ≡ true)
counted next total [] h = let e = eqb-true next total h in (omega arith, refl)
counted next total (x ∷ xs) h =
    elim (cases_Bool (ltb x next)) [
      | inl low ↦
          let rest = counted next total xs (sym (cond-true (ltb x next) (counts_up next total xs) (eqb x next && counts_up (next + 1) total xs) low) ∙ h) in
          let lt = ltb-true x next low in
          (rest.0, and_from (ltb x total) (list_all (λ y. ltb y total) xs) (lt-ltb x total (omega (arith, rest.0))) rest.1)
      | inr high ↦
          let parts = and_parts (eqb x next) (counts_up (next + 1) total xs)
          (sym (cond-false (ltb x next) (counts_up next total xs) (eqb x next && counts_up (next + 1) total xs) high) ∙ h) in
          let rest = counted (next + 1) total xs parts.1 in
          let same = eqb-true x next parts.0 in
          (omega (arith, rest.0), and_from (ltb x total) (list_all (λ y. ltb y total) xs) (lt-ltb x total (omega (arith, rest.0))) rest.1)
    ]

-- what stands behind the first is in order too
pub ascends_tail : (x : ℕ) (xs : List ℕ) → ascends (x ∷ xs) ≡ true → ascends xs ≡ true
ascends_tail x [] h = refl
ascends_tail x (y ∷ ys) h = (and_parts (leb x y) (ascends (y ∷ ys)) h).1

-- where each passes, so does one that is among them
pub all_has : (p : ℕ → Bool) (ys : List ℕ) (x : ℕ) → list_all p ys ≡ true → has ys x ≡ true → p x ≡ true
all_has p [] x h k = absurd cc
all_has p (y ∷ ys) x h k =
    let parts = and_parts (p y) (list_all p ys) h in
    elim (or_cases (eqb x y) (has ys x) k) [
      | inl same ↦ ap p (eqb-true x y same) ∙ parts.0
      | inr later ↦ all_has p ys x parts.1 later
    ]
