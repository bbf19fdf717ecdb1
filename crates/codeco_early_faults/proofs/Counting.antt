-- How many different members a list has.
use Rattle.std.proofs.Common.{◌≡◌, ℕ, suc, ◌+◌, ◌≤◌, Bool, true, false, not, cond, ◌&&◌, ◌||◌, eqb, ltb, List, [], ◌∷◌, ◌++◌, length, refl, sym, ap, subst, ◌∙◌, length-append, arith, inl, inr}
use Rattle.std.specs.List.{list_any}
use Rattle.std.proofs.lemmas.Bool.{cases_Bool, both_ways, eqb-true, eq-eqb, false_from_ne_true, ltb-true, ltb-false, lt-ltb, le-ltb}
use Rattle.codeco_text.specs.Names.{same_bytes, is_among}
use Rattle.codeco_text.proofs.Growth.{same_is, same_bytes_refl}
use Rattle.codeco_checked.specs.Numbering.{has, count_different, differ}
use Rattle.codeco_checked.specs.Faults.{count_texts}
use Rattle.codeco_early_faults.proofs.Moves.{Movable, any_move}

-- 0 where the test holds, and 1 where it doesn't
abbrev pub zero_if : Bool → ℕ
zero_if b = cond b 0 1

-- how many different members there are by a test of equality
abbrev pub count_by_test : {X : Type 0} → (X → X → Bool) → List X → ℕ
count_by_test same [] = 0
count_by_test same (x ∷ xs) = count_by_test same xs + cond (list_any (same x) xs) 0 1

pub texts_counted : (ws : List (List ℕ)) → count_texts ws ≡ count_by_test same_bytes ws
texts_counted [] = refl
texts_counted (w ∷ ws) = ap (λ n. n + cond (is_among ws w) 0 1) (texts_counted ws)

pub numbers_counted : (ns : List ℕ) → count_different ns ≡ count_by_test eqb ns
numbers_counted [] = refl
numbers_counted (n ∷ ns) = ap (λ k. k + cond (has ns n) 0 1) (numbers_counted ns)

pub record Decides {X : Type 0} (same : X → X → Bool) : Type 0 where
  pub is : (x y : X) → same x y ≡ true → x ≡ y
  pub self : (x : X) → same x x ≡ true

pub texts_decide : Decides same_bytes
texts_decide = record { is = same_is; self = same_bytes_refl }

pub numbers_decide : Decides eqb
numbers_decide = record { is = eqb-true; self = λ n. eq-eqb n n refl }

module _ {X : Type 0} (same : X → X → Bool) (d : Decides same) where
  pub differs_comm : (v w : X) → same v w ≡ false → same w v ≡ false
  differs_comm v w h = false_from_ne_true (same w v) (λ e. both_ways (same v w) h (subst (λ x. same v x ≡ true) (sym (d.is w v e)) (d.self v)))

  pub count_move : Movable (count_by_test same)
  count_move [] ys w = refl
  count_move (x ∷ xs) ys w =
      let others = list_any (same x) (xs ++ ys) in
      let before : count_by_test same (xs ++ w ∷ ys) ≡ count_by_test same (xs ++ ys) + zero_if (list_any (same w) (xs ++ ys)) = count_move xs ys w in
      let member : list_any (same x) (xs ++ w ∷ ys) ≡ (same x w || others) = any_move (same x) xs ys w in
      elim (cases_Bool (same x w)) [
        | inl e ↦
            let is = d.is x w e in
            let left : zero_if (list_any (same x) (xs ++ w ∷ ys)) ≡ 0 = ap zero_if (member ∙ ap (λ b. b || others) e) in
            let first : same w x ≡ true = subst (λ y. same y x ≡ true) is (d.self x) in
            let right : zero_if (same w x || list_any (same w) (xs ++ ys)) ≡ 0 = ap (λ (b : Bool). zero_if (b || list_any (same w) (xs ++ ys))) first in
            let swap : zero_if (list_any (same w) (xs ++ ys)) ≡ zero_if others = sym (ap (λ (y : X). zero_if (list_any (same y) (xs ++ ys))) is) in
            omega arith
        | inr e ↦
            let left : zero_if (list_any (same x) (xs ++ w ∷ ys)) ≡ zero_if others = ap zero_if (member ∙ ap (λ b. b || others) e) in
            let right : zero_if (same w x || list_any (same w) (xs ++ ys)) ≡ zero_if (list_any (same w) (xs ++ ys)) =
            ap (λ (b : Bool). zero_if (b || list_any (same w) (xs ++ ys))) (differs_comm x w e) in
            omega arith
      ]

pub count_texts_move : Movable count_texts
count_texts_move xs ys w = texts_counted (xs ++ w ∷ ys) ∙ count_move same_bytes texts_decide xs ys w ∙ sym (texts_counted (w ∷ (xs ++ ys)))

pub count_different_move : Movable count_different
count_different_move xs ys n = numbers_counted (xs ++ n ∷ ys) ∙ count_move eqb numbers_decide xs ys n ∙ sym (numbers_counted (n ∷ (xs ++ ys)))

-- the names differ where as many are different as there are
pub count_bound : (ws : List (List ℕ)) → count_texts ws ≤ length ws
count_bound [] = omega arith
count_bound (w ∷ ws) =
    let rest = count_bound ws in
    elim (cases_Bool (is_among ws w)) [
      | inl e ↦ let here : zero_if (is_among ws w) ≡ 0 = ap zero_if e in omega arith
      | inr e ↦ let here : zero_if (is_among ws w) ≡ 1 = ap zero_if e in omega arith
    ]

pub differ_counts : (ws : List (List ℕ)) → ltb (count_texts ws) (length ws) ≡ not (differ ws)
differ_counts [] = refl
differ_counts (w ∷ ws) =
    let bound = count_bound ws in
    elim (cases_Bool (is_among ws w)) [
      | inl e ↦
          let here : zero_if (is_among ws w) ≡ 0 = ap zero_if e in
          lt-ltb (count_texts ws + zero_if (is_among ws w)) (length (w ∷ ws)) (omega arith) ∙ sym (ap (λ b. not (not b && differ ws)) e)
      | inr e ↦
          let here : zero_if (is_among ws w) ≡ 1 = ap zero_if e in
          step (count_texts ws) (length ws) (zero_if (is_among ws w)) here ∙ differ_counts ws ∙ sym (ap (λ b. not (not b && differ ws)) e)
    ]
  where
    step : (a b k : ℕ) → k ≡ 1 → ltb (a + k) (suc b) ≡ ltb a b
    step a b k e = elim (cases_Bool (ltb a b)) [
      | inl h ↦ let lt = ltb-true a b h in lt-ltb (a + k) (suc b) (omega arith) ∙ sym h
      | inr h ↦ let le = ltb-false a b h in le-ltb (a + k) (suc b) (omega arith) ∙ sym h
    ]

differ_move_not : (xs ys : List (List ℕ)) (w : List ℕ) → not (differ (xs ++ w ∷ ys)) ≡ not (differ (w ∷ (xs ++ ys)))
differ_move_not xs ys w =
    let long : length (xs ++ w ∷ ys) ≡ length (w ∷ (xs ++ ys)) = omega (arith, length-append xs (w ∷ ys), length-append xs ys) in
    sym (differ_counts (xs ++ w ∷ ys)) ∙ ap (λ n. ltb n (length (xs ++ w ∷ ys))) (count_texts_move xs ys w)
    ∙ ap (λ n. ltb (count_texts (w ∷ (xs ++ ys))) n) long ∙ differ_counts (w ∷ (xs ++ ys))

not_back : (a b : Bool) → not a ≡ not b → a ≡ b
not_back true true h = refl
not_back true false h = absurd cc
not_back false true h = absurd cc
not_back false false h = refl

pub differ_move : Movable differ
differ_move xs ys w = not_back (differ (xs ++ w ∷ ys)) (differ (w ∷ (xs ++ ys))) (differ_move_not xs ys w)
