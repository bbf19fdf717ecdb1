-- How many different numbers there are is decided by which there are.
use Rattle.std.proofs.Common.{◌≡◌, ℕ, ◌+◌, ◌≤◌, Bool, true, false, ◌||◌, cond, eqb, List, [], ◌∷◌, ◌++◌, refl, sym, ap, ◌∙◌, arith, inl, inr}
use Rattle.std.proofs.lemmas.Bool.{or_parts, or_left, or_right, cases_Bool, eqb-true, eqb-false, eq-eqb, ne_eqb, both_ways, cond-true, cond-false, false_from_ne_true}
use Rattle.codeco_checked.specs.Numbering.{has, count_different}

pub has_append : (xs ys : List ℕ) (n : ℕ) → has (xs ++ ys) n ≡ (has xs n || has ys n)
has_append [] ys n = refl
has_append (x ∷ xs) ys n = ap (λ b. eqb n x || b) (has_append xs ys n) ∙ sym (or_three (eqb n x) (has xs n) (has ys n))
  where
    or_three : (a b c : Bool) → ((a || b) || c) ≡ (a || (b || c))
    or_three true b c = refl
    or_three false b c = refl

abbrev without : ℕ → List ℕ → List ℕ
without n [] = []
without n (x ∷ xs) = cond (eqb n x) (without n xs) (x ∷ without n xs)

without_none : (n : ℕ) (xs : List ℕ) → has xs n ≡ false → without n xs ≡ xs
without_none n [] h = refl
without_none n (x ∷ xs) h =
    let parts = or_parts (eqb n x) (has xs n) h in
    cond-false (eqb n x) (without n xs) (x ∷ without n xs) parts.0 ∙ ap (λ (ys : List ℕ). x ∷ ys) (without_none n xs parts.1)

without_other : (n m : ℕ) (xs : List ℕ) → eqb m n ≡ false → has (without n xs) m ≡ has xs m
without_other n m [] h = refl
without_other n m (x ∷ xs) h =
    elim (cases_Bool (eqb n x)) [
      | inl e ↦
          let other : eqb m x ≡ false = ap (eqb m) (sym (eqb-true n x e)) ∙ h in
          ap (λ ys. has ys m) (cond-true (eqb n x) (without n xs) (x ∷ without n xs) e) ∙ without_other n m xs h ∙ sym (ap (λ b. b || has xs m) other)
      | inr e ↦ ap (λ ys. has ys m) (cond-false (eqb n x) (without n xs) (x ∷ without n xs) e) ∙ ap (λ b. eqb m x || b) (without_other n m xs h)
    ]

count_without : (n : ℕ) (xs : List ℕ) → has xs n ≡ true → count_different xs ≡ count_different (without n xs) + 1
count_without n [] h = absurd cc
count_without n (x ∷ xs) h =
    elim (cases_Bool (eqb n x)) [
      | inl e ↦
          let same = eqb-true n x e in
          let less : count_different (without n (x ∷ xs)) ≡ count_different (without n xs) =
          ap count_different (cond-true (eqb n x) (without n xs) (x ∷ without n xs) e) in
          elim (cases_Bool (has xs n)) [
            | inl more ↦
                let rest = count_without n xs more in
                let here : has xs x ≡ true = ap (has xs) (sym same) ∙ more in
                let none = cond-true {A = ℕ} (has xs x) 0 1 here in
                omega arith
            | inr last ↦
                let here : has xs x ≡ false = ap (has xs) (sym same) ∙ last in
                let one = cond-false {A = ℕ} (has xs x) 0 1 here in
                let all : count_different (without n xs) ≡ count_different xs = ap count_different (without_none n xs last) in
                omega arith
          ]
      | inr e ↦
          let more : has xs n ≡ true = sym (ap (λ b. b || has xs n) e) ∙ h in
          let rest = count_without n xs more in
          let less : count_different (without n (x ∷ xs)) ≡ count_different (x ∷ without n xs) =
          ap count_different (cond-false (eqb n x) (without n xs) (x ∷ without n xs) e) in
          let other : eqb x n ≡ false = ne_eqb x n (λ p. eqb-false n x e (sym p)) in
          let here : count_different (x ∷ without n xs) ≡ count_different (without n xs) + cond (has xs x) 0 1 =
          ap (λ b. count_different (without n xs) + cond b 0 1) (without_other n x xs other) in
          omega arith
    ]

pub count_within : (xs ys : List ℕ) → ((n : ℕ) → has xs n ≡ true → has ys n ≡ true) → count_different xs ≤ count_different ys
count_within [] ys h = omega arith
count_within (x ∷ xs) ys h =
    elim (cases_Bool (has xs x)) [
      | inl old ↦
          let none = cond-true {A = ℕ} (has xs x) 0 1 old in
          let rest = count_within xs ys (λ n k. h n (or_right (eqb n x) (has xs n) k)) in
          omega arith
      | inr new ↦
          let one = cond-false {A = ℕ} (has xs x) 0 1 new in
          let here : has ys x ≡ true = h x (or_left (eqb x x) (has xs x) (eq-eqb x x refl)) in
          let fewer = count_without x ys here in
          let rest = count_within xs (without x ys)
          (λ n k.
          let other : eqb n x ≡ false = false_from_ne_true (eqb n x) (λ e. both_ways (has xs x) new (ap (has xs) (sym (eqb-true n x e)) ∙ k)) in
          without_other x n ys other ∙ h n (or_right (eqb n x) (has xs n) k)) in
          omega arith
    ]

-- the same numbers are as many
pub count_same : (xs ys : List ℕ) → ((n : ℕ) → has xs n ≡ has ys n) → count_different xs ≡ count_different ys
count_same xs ys h =
    let most = count_within xs ys (λ n k. sym (h n) ∙ k) in
    let least = count_within ys xs (λ n k. h n ∙ k) in
    omega arith
