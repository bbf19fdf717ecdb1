-- Numbers of categories, and those of the categories that are no preterminals.
use Rattle.std.proofs.Common.{◌≡◌, ℕ, ◌+◌, ◌-◌, true, ◌&&◌, eqb, ltb, cond, List, [], ◌∷◌, ◌++◌, refl, sym, ap, subst, ◌∙◌, arith, inl, inr}
use Rattle.std.proofs.lemmas.Bool.{and_parts, and_from, cases_Bool, eqb-true, eq-eqb, ltb-true, ltb-false, lt-ltb, le-ltb, cond-true, cond-false}
use Rattle.codeco_checked.specs.Numbering.{counts_up}

-- the numbers from 5 on, less 5
abbrev pub lowered : List ℕ → List ℕ
lowered [] = []
lowered (x ∷ xs) = cond (ltb x 5) (lowered xs) ((x - 5) ∷ lowered xs)

pub lowered_append : (xs ys : List ℕ) → lowered (xs ++ ys) ≡ lowered xs ++ lowered ys
lowered_append [] ys = refl
lowered_append (x ∷ xs) ys =
    elim (cases_Bool (ltb x 5)) [
      | inl low ↦ cond-true (ltb x 5) (lowered (xs ++ ys)) ((x - 5) ∷ lowered (xs ++ ys)) low ∙ lowered_append xs ys
          ∙ ap (λ (z : List ℕ). z ++ lowered ys) (sym (cond-true (ltb x 5) (lowered xs) ((x - 5) ∷ lowered xs) low))
      | inr high ↦
          cond-false (ltb x 5) (lowered (xs ++ ys)) ((x - 5) ∷ lowered (xs ++ ys)) high
          ∙ ap (λ (z : List ℕ). (x - 5) ∷ z) (lowered_append xs ys)
          ∙ ap (λ (z : List ℕ). z ++ lowered ys) (sym (cond-false (ltb x 5) (lowered xs) ((x - 5) ∷ lowered xs) high))
    ]

pub lowered_counts : (next total : ℕ) (xs : List ℕ) → counts_up (next + 5) (total + 5) xs ≡ true → counts_up next total (lowered xs) ≡ true
lowered_counts next total [] h = let e = eqb-true (next + 5) (total + 5) h in eq-eqb next total (omega arith)
lowered_counts next total (x ∷ xs) h =
    let rest = lowered xs in
    let old = counts_up (next + 5) (total + 5) xs in
    let new = eqb x (next + 5) && counts_up (next + 5 + 1) (total + 5) xs in
    elim (cases_Bool (ltb x 5)) [
      | inl low ↦
          let lt = ltb-true x 5 low in
          ap (counts_up next total) (cond-true (ltb x 5) rest ((x - 5) ∷ rest) low)
          ∙ lowered_counts next total xs (sym (cond-true (ltb x (next + 5)) old new (lt-ltb x (next + 5) (omega arith))) ∙ h)
      | inr high ↦
          let le = ltb-false x 5 high in
          ap (counts_up next total) (cond-false (ltb x 5) rest ((x - 5) ∷ rest) high)
          ∙ elim (cases_Bool (ltb x (next + 5))) [
            | inl known ↦
                let lt = ltb-true x (next + 5) known in
                cond-true (ltb (x - 5) next) (counts_up next total rest) (eqb (x - 5) next && counts_up (next + 1) total rest)
                (lt-ltb (x - 5) next (omega arith))
                ∙ lowered_counts next total xs (sym (cond-true (ltb x (next + 5)) old new known) ∙ h)
            | inr fresh ↦
                let parts = and_parts (eqb x (next + 5)) (counts_up (next + 5 + 1) (total + 5) xs) (sym (cond-false (ltb x (next + 5)) old new fresh) ∙ h) in
                let same = eqb-true x (next + 5) parts.0 in
                let more : counts_up (next + 1 + 5) (total + 5) xs ≡ true = subst (λ (n : ℕ). counts_up n (total + 5) xs ≡ true) (omega arith) parts.1 in
                cond-false (ltb (x - 5) next) (counts_up next total rest) (eqb (x - 5) next && counts_up (next + 1) total rest)
                (le-ltb (x - 5) next (omega arith))
                ∙ and_from (eqb (x - 5) next) (counts_up (next + 1) total rest) (eq-eqb (x - 5) next (omega arith)) (lowered_counts (next + 1) total xs more)
          ]
    ]

-- the same backwards
pub raised_counts : (next total : ℕ) (xs : List ℕ) → counts_up next total (lowered xs) ≡ true → counts_up (next + 5) (total + 5) xs ≡ true
raised_counts next total [] h = let e = eqb-true next total h in eq-eqb (next + 5) (total + 5) (omega arith)
raised_counts next total (x ∷ xs) h =
    let rest = lowered xs in
    let old = counts_up (next + 5) (total + 5) xs in
    let new = eqb x (next + 5) && counts_up (next + 5 + 1) (total + 5) xs in
    elim (cases_Bool (ltb x 5)) [
      | inl low ↦
          let lt = ltb-true x 5 low in
          cond-true (ltb x (next + 5)) old new (lt-ltb x (next + 5) (omega arith))
          ∙ raised_counts next total xs (ap (counts_up next total) (sym (cond-true (ltb x 5) rest ((x - 5) ∷ rest) low)) ∙ h)
      | inr high ↦
          let le = ltb-false x 5 high in
          let here : counts_up next total ((x - 5) ∷ rest) ≡ true = ap (counts_up next total) (sym (cond-false (ltb x 5) rest ((x - 5) ∷ rest) high)) ∙ h in
          let known_rest = counts_up next total rest in
          let fresh_rest = eqb (x - 5) next && counts_up (next + 1) total rest in
          elim (cases_Bool (ltb (x - 5) next)) [
            | inl known ↦
                let lt = ltb-true (x - 5) next known in
                cond-true (ltb x (next + 5)) old new (lt-ltb x (next + 5) (omega arith))
                ∙ raised_counts next total xs (sym (cond-true (ltb (x - 5) next) known_rest fresh_rest known) ∙ here)
            | inr fresh ↦
                let parts = and_parts (eqb (x - 5) next) (counts_up (next + 1) total rest)
                (sym (cond-false (ltb (x - 5) next) known_rest fresh_rest fresh) ∙ here) in
                let same = eqb-true (x - 5) next parts.0 in
                let more : counts_up (next + 5 + 1) (total + 5) xs ≡ true =
                subst (λ (n : ℕ). counts_up n (total + 5) xs ≡ true) (omega arith) (raised_counts (next + 1) total xs parts.1) in
                cond-false (ltb x (next + 5)) old new (le-ltb x (next + 5) (omega arith))
                ∙ and_from (eqb x (next + 5)) (counts_up (next + 5 + 1) (total + 5) xs) (eq-eqb x (next + 5) (omega arith)) more
          ]
    ]
