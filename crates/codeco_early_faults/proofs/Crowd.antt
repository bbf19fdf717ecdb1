-- A name that stands over 16 times in a list, found name by name.
use Rattle.std.proofs.Common.{◌≡◌, ℕ, ◌+◌, ◌<◌, ◌≤◌, Bool, true, false, cond, ◌||◌, ltb, List, [], ◌∷◌, ◌++◌, map, take, get_or, length, Option, Some, unwrap_or, count_by, refl, sym, ap, subst, ◌∙◌, arith}
use Rattle.std.specs.List.{list_any}
use Rattle.std.specs.Bool.{nat_eq}
use Rattle.std.specs.Cmp.Lexicographic.{pointwise}
use Rattle.std.proofs.Math.ListN.{get_or-map}
use Rattle.std.proofs.lemmas.List.{take_more, take_all, take-map, map-append, length-map}
use Rattle.std.proofs.lemmas.List.Sums.{sum_by_push, sum_by_more_le}
use Rattle.std.proofs.lemmas.List.Folds.{list_any_at}
use Rattle.std.proofs.lemmas.Bool.{lt-ltb, le-ltb}
use Rattle.codeco_numbering.proofs.NameTables.{pointwise_same}
use Rattle.codeco_text.specs.Names.{same_bytes}
use Rattle.codeco_text.proofs.Growth.{same_is, same_bytes_refl}
use Rattle.codeco_early_faults.specs.Counts.{has_crowd}
use Rattle.codeco_early_faults.proofs.Counting.{texts_decide, differs_comm}
use denote.Ref.{Bor}

-- how often a name stands in a list
abbrev pub times : List ℕ → List (List ℕ) → ℕ
times w names = count_by (same_bytes w) names

-- 1 where the test holds, and 0 where it doesn't
abbrev pub one_if : Bool → ℕ
one_if b = cond b 1 0

times-push : (w : List ℕ) (names : List (List ℕ)) (v : List ℕ) → times w (names ++ v ∷ []) ≡ times w names + one_if (same_bytes w v)
times-push w names v = sum_by_push (λ x. cond (same_bytes w x) 1 0) names v

-- one turn of a loop over what has names
module _ {X : Type 0} (f : X → List ℕ) (xs : List X) (i : ℕ) (d : X) (lt : i < length xs) where
  abbrev here : List ℕ
  here = f (get_or xs i d)

  front : map f (take (i + 1) xs) ≡ map f (take i xs) ++ here ∷ []
  front = ap (map f) (take_more xs i d lt) ∙ map-append f (take i xs) (get_or xs i d ∷ [])

  pub times_more : (w : List ℕ) → times w (map f (take (i + 1) xs)) ≡ times w (map f (take i xs)) + one_if (same_bytes w here)
  times_more w = ap (times w) front ∙ times-push w (map f (take i xs)) here

  pub crowd_found : 16 ≤ times here (map f (take i xs)) → true ≡ has_crowd 16 (map f xs)
  crowd_found many =
      let names = map f xs in
      let long : i < length names = omega (arith, length-map xs f) in
      let at : get_or names i (f d) ≡ here = get_or-map f xs i d in
      let one : one_if (same_bytes here (get_or names i (f d))) ≡ 1 = ap one_if (ap (same_bytes here) at ∙ same_bytes_refl here) in
      let more : times here (take i names) + one_if (same_bytes here (get_or names i (f d))) ≤ times here names =
      sum_by_more_le (λ x. one_if (same_bytes here x)) names i (f d) long in
      let same : times here (take i names) ≡ times here (map f (take i xs)) = ap (times here) (take-map f i xs) in
      let full : 16 < times here names = omega arith in
      sym (list_any_at (λ v. ltb 16 (times v names)) names i (f d) long (ap (λ v. ltb 16 (times v names)) at ∙ lt-ltb 16 (times here names) full))

none_full : (names ws : List (List ℕ)) → ((w : List ℕ) → times w names ≤ 16) → list_any (λ w. ltb 16 (times w names)) ws ≡ false
none_full names [] few = refl
none_full names (w ∷ ws) few = ap (λ b. b || list_any (λ v. ltb 16 (times v names)) ws) (le-ltb 16 (times w names) (few w)) ∙ none_full names ws few

pub no_crowd : {X : Type 0} (f : X → List ℕ) (xs : List X) (i : ℕ) → length xs ≤ i → ((w : List ℕ) → times w (map f (take i xs)) ≤ 16)
    → false ≡ has_crowd 16 (map f xs)
no_crowd f xs i past few =
    let all : take i xs ≡ xs = take_all i xs past in
    sym (none_full (map f xs) (map f xs) (λ w. subst (λ ys. times w (map f ys) ≤ 16) all (few w)))

-- what a table counts of the name w, after one more of the name v, of which it counted n
pub counted_more : (w v : List ℕ) (names : List (List ℕ)) (n : ℕ) (old new : Option ℕ) → new ≡ cond (pointwise nat_eq v w) (Some (n + 1)) old
    → n ≡ times v names → unwrap_or old 0 ≡ times w names → unwrap_or new 0 ≡ times w names + one_if (same_bytes w v)
counted_more w v names n old new put had before = by (same_bytes v w) (pointwise_same v w)
  where
    by : (b : Bool) → pointwise nat_eq v w ≡ b → unwrap_or new 0 ≡ times w names + one_if (same_bytes w v)
    by true e =
        let same : v ≡ w = same_is v w (sym (pointwise_same v w) ∙ e) in
        let one : one_if (same_bytes w v) ≡ 1 = ap one_if (subst (λ x. same_bytes w x ≡ true) (sym same) (same_bytes_refl w)) in
        let now : unwrap_or new 0 ≡ n + 1 = ap (λ o. unwrap_or o 0) (put ∙ ap (λ b. cond b (Some (n + 1)) old) e) in
        let times_same : times v names ≡ times w names = ap (λ x. times x names) same in
        omega arith
    by false e =
        let other : one_if (same_bytes w v) ≡ 0 = ap one_if (differs_comm same_bytes texts_decide v w (sym (pointwise_same v w) ∙ e)) in
        let now : unwrap_or new 0 ≡ unwrap_or old 0 = ap (λ o. unwrap_or o 0) (put ∙ ap (λ b. cond b (Some (n + 1)) old) e) in
        omega arith

-- and no name is counted over 16 times
pub few_more : (w v : List ℕ) (names : List (List ℕ)) (n : ℕ) → n ≡ times v names → n < 16 → times w names ≤ 16 → times w names + one_if (same_bytes w v) ≤ 16
few_more w v names n had low few = by (same_bytes w v) refl
  where
    by : (b : Bool) → same_bytes w v ≡ b → times w names + one_if (same_bytes w v) ≤ 16
    by true e =
        let same : w ≡ v = same_is w v e in
        let one : one_if (same_bytes w v) ≡ 1 = ap one_if e in
        let times_same : times w names ≡ times v names = ap (λ x. times x names) same in
        omega arith
    by false e =
        let none : one_if (same_bytes w v) ≡ 0 = ap one_if e in
        omega arith

-- the first names of borrowed pairs
pub firsts : (ps : List (Bor (List ℕ) × Bor (List ℕ))) → map (λ p. p.0.now) ps ≡ map (λ (p : List ℕ × List ℕ). p.0) (map (λ p. (p.0.now, p.1.now)) ps)
firsts [] = refl
firsts (p ∷ ps) = ap (λ (l : List (List ℕ)). p.0.now ∷ l) (firsts ps)
