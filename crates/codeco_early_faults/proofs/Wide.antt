-- Different pairs with one first name, counted.
use Rattle.std.proofs.Common.{◌≡◌, ℕ, ◌+◌, Bool, true, false, not, cond, ◌&&◌, ◌||◌, ltb, List, [], ◌∷◌, ◌++◌, map, length, refl, sym, ap, subst, ◌∙◌, append_assoc, append-nil, add-zero, arith, inl, inr}
use Rattle.std.specs.List.{list_any}
use Rattle.std.proofs.lemmas.Bool.{cases_Bool, both_ways, and_parts, not-true, or_parts, or_right, false_from_ne_true}
use Rattle.std.proofs.lemmas.List.Folds.{list_any-append}
use Rattle.std.proofs.lemmas.List.Sums.{sum_by-cons}
use Rattle.codeco_numbering.proofs.Sizes.{differ_count}
use Rattle.codeco_numbering.proofs.Sound.Tables.{among_append}
use Rattle.codeco_text.specs.Names.{same_bytes, is_among}
use Rattle.codeco_text.proofs.Growth.{same_is, same_bytes_refl}
use Rattle.codeco_checked.specs.Numbering.{differ}
use Rattle.codeco_checked.specs.Faults.{count_texts}
use Rattle.codeco_early_faults.specs.Pairs.{same_pair, has_pair, gathered_pairs, names_with}
use Rattle.codeco_early_faults.specs.Counts.{has_crowd}
use Rattle.codeco_early_faults.specs.Early.{has_wide}
use Rattle.codeco_early_faults.proofs.Counting.{zero_if, count_texts_move}
use Rattle.codeco_early_faults.proofs.Crowd.{times, one_if}

pub names_with-append : (w : List ℕ) (xs ys : List (List ℕ × List ℕ)) → names_with w (xs ++ ys) ≡ names_with w xs ++ names_with w ys
names_with-append w [] ys = refl
names_with-append w (x ∷ xs) ys = by (same_bytes w x.0) (names_with-append w xs ys)
  where
    by : (b : Bool) → names_with w (xs ++ ys) ≡ names_with w xs ++ names_with w ys
        → cond b (x.1 ∷ names_with w (xs ++ ys)) (names_with w (xs ++ ys)) ≡ cond b (x.1 ∷ names_with w xs) (names_with w xs) ++ names_with w ys
    by true rest = ap (λ (l : List (List ℕ)). x.1 ∷ l) rest
    by false rest = rest

-- a second name stands with a first one where the pair is there
among_with : (w v : List ℕ) (ps : List (List ℕ × List ℕ)) → is_among (names_with w ps) v ≡ has_pair ps (w, v)
among_with w v [] = refl
among_with w v (p ∷ ps) = by (same_bytes w p.0) (among_with w v ps)
  where
    by : (b : Bool) → is_among (names_with w ps) v ≡ has_pair ps (w, v)
        → is_among (cond b (p.1 ∷ names_with w ps) (names_with w ps)) v ≡ ((b && same_bytes v p.1) || has_pair ps (w, v))
    by true rest = ap (λ b. same_bytes v p.1 || b) rest
    by false rest = rest

abbrev pub pairs_differ : List (List ℕ × List ℕ) → Bool
pairs_differ [] = true
pairs_differ (p ∷ ps) = not (has_pair ps p) && pairs_differ ps

with_differ : (w : List ℕ) (ps : List (List ℕ × List ℕ)) → pairs_differ ps ≡ true → differ (names_with w ps) ≡ true
with_differ w [] h = refl
with_differ w (p ∷ ps) h = by (same_bytes w p.0) refl (with_differ w ps (and_parts (not (has_pair ps p)) (pairs_differ ps) h).1)
  where
    by : (b : Bool) → same_bytes w p.0 ≡ b → differ (names_with w ps) ≡ true → differ (cond (same_bytes w p.0) (p.1 ∷ names_with w ps) (names_with w ps)) ≡ true
    by true e rest =
        let fresh : has_pair ps p ≡ false = not-true (has_pair ps p) (and_parts (not (has_pair ps p)) (pairs_differ ps) h).0 in
        let same : w ≡ p.0 = same_is w p.0 e in
        let none : is_among (names_with w ps) p.1 ≡ false = among_with w p.1 ps ∙ ap (λ (v : List ℕ). has_pair ps (v, p.1)) same ∙ fresh in
        ap (λ b. differ (cond b (p.1 ∷ names_with w ps) (names_with w ps))) e ∙ ap (λ b. not b && differ (names_with w ps)) none ∙ rest
    by false e rest = ap (λ b. differ (cond b (p.1 ∷ names_with w ps) (names_with w ps))) e ∙ rest

same_pair_refl : (p : List ℕ × List ℕ) → same_pair p p ≡ true
same_pair_refl p = ap (λ b. b && same_bytes p.1 p.1) (same_bytes_refl p.0) ∙ same_bytes_refl p.1

same_pair_comm : (p q : List ℕ × List ℕ) → same_pair p q ≡ true → same_pair q p ≡ true
same_pair_comm p q h =
    let parts = and_parts (same_bytes p.0 q.0) (same_bytes p.1 q.1) h in
    ap (λ (v : List ℕ). same_bytes q.0 v && same_bytes q.1 p.1) (same_is p.0 q.0 parts.0)
    ∙ ap (λ (v : List ℕ). same_bytes q.0 q.0 && same_bytes q.1 v) (same_is p.1 q.1 parts.1)
    ∙ same_pair_refl q

push_differ : (ps : List (List ℕ × List ℕ)) (p : List ℕ × List ℕ) → pairs_differ ps ≡ true → has_pair ps p ≡ false → pairs_differ (ps ++ p ∷ []) ≡ true
push_differ [] p h e = refl
push_differ (q ∷ qs) p h e =
    let parts = and_parts (not (has_pair qs q)) (pairs_differ qs) h in
    let split = or_parts (same_pair p q) (has_pair qs p) e in
    let other : same_pair q p ≡ false = false_from_ne_true (same_pair q p) (λ k. both_ways (same_pair p q) split.0 (same_pair_comm q p k)) in
    let none : has_pair (qs ++ p ∷ []) q ≡ false =
    list_any-append (same_pair q) qs (p ∷ [])
    ∙ ap (λ b. b || (same_pair q p || false)) (not-true (has_pair qs q) parts.0)
    ∙ ap (λ b. b || false) other in
    ap (λ b. not b && pairs_differ (qs ++ p ∷ [])) none ∙ push_differ qs p parts.1 split.1

-- as many names stand with a first one as pairs with it are gathered
count_with : (w : List ℕ) (ps qs : List (List ℕ × List ℕ)) → pairs_differ ps ≡ true
    → count_texts (names_with w ps ++ names_with w qs) ≡ length (names_with w (gathered_pairs ps qs))
count_with w ps [] h = ap count_texts (append-nil (names_with w ps)) ∙ differ_count (names_with w ps) (with_differ w ps h)
count_with w ps (q ∷ qs) h = by (has_pair ps q) refl (λ rs k. count_with w rs qs k)
  where
    old : has_pair ps q ≡ true → (b : Bool) → same_bytes w q.0 ≡ b
        → count_texts (names_with w ps ++ cond b (q.1 ∷ names_with w qs) (names_with w qs)) ≡ count_texts (names_with w ps ++ names_with w qs)
    old e true f =
        let same : w ≡ q.0 = same_is w q.0 f in
        let there : is_among (names_with w ps) q.1 ≡ true = among_with w q.1 ps ∙ ap (λ (v : List ℕ). has_pair ps (v, q.1)) same ∙ e in
        count_texts_move (names_with w ps) (names_with w qs) q.1
        ∙ ap (λ (b : Bool). count_texts (names_with w ps ++ names_with w qs) + zero_if b)
        (among_append (names_with w ps) (names_with w qs) q.1 ∙ ap (λ b. b || is_among (names_with w qs) q.1) there)
        ∙ add-zero (count_texts (names_with w ps ++ names_with w qs))
    old e false f = refl

    by : (b : Bool) → has_pair ps q ≡ b → ((rs : List (List ℕ × List ℕ)) → pairs_differ rs ≡ true
        → count_texts (names_with w rs ++ names_with w qs) ≡ length (names_with w (gathered_pairs rs qs)))
        → count_texts (names_with w ps ++ names_with w (q ∷ qs)) ≡ length (names_with w (gathered_pairs ps (q ∷ qs)))
    by true e rest =
        old e (same_bytes w q.0) refl ∙ rest ps h ∙ sym (ap (λ b. length (names_with w (gathered_pairs (cond b ps (ps ++ q ∷ [])) qs))) e)
    by false e rest =
        ap (λ (l : List (List ℕ)). count_texts (names_with w ps ++ l)) (names_with-append w (q ∷ []) qs)
        ∙ ap count_texts (sym (append_assoc (names_with w ps) (names_with w (q ∷ [])) (names_with w qs)))
        ∙ ap (λ (l : List (List ℕ)). count_texts (l ++ names_with w qs)) (sym (names_with-append w ps (q ∷ [])))
        ∙ rest (ps ++ q ∷ []) (push_differ ps q h e)
        ∙ sym (ap (λ b. length (names_with w (gathered_pairs (cond b ps (ps ++ q ∷ [])) qs))) e)

times_with : (w : List ℕ) (ps : List (List ℕ × List ℕ)) → times w (map (λ p. p.0) ps) ≡ length (names_with w ps)
times_with w [] = refl
times_with w (p ∷ ps) = sum_by-cons (λ x. cond (same_bytes w x) 1 0) p.0 (map (λ x. x.0) ps) ∙ by (same_bytes w p.0) (times_with w ps)
  where
    by : (b : Bool) → times w (map (λ x. x.0) ps) ≡ length (names_with w ps)
        → one_if b + times w (map (λ x. x.0) ps) ≡ length (cond b (p.1 ∷ names_with w ps) (names_with w ps))
    by true rest = omega arith
    by false rest = omega arith

-- a test of the first names, over gathered pairs
any_gathered : (test : List ℕ → Bool) (ps qs : List (List ℕ × List ℕ))
    → list_any (λ p. test p.0) (gathered_pairs ps qs) ≡ (list_any (λ p. test p.0) ps || list_any (λ p. test p.0) qs)
any_gathered test ps [] = none (list_any (λ p. test p.0) ps)
  where
    none : (a : Bool) → a ≡ (a || false)
    none true = refl
    none false = refl
any_gathered test ps (q ∷ qs) = by (has_pair ps q) refl (λ rs. any_gathered test rs qs)
  where
    passes : (rs : List (List ℕ × List ℕ)) → has_pair rs q ≡ true → test q.0 ≡ true → list_any (λ p. test p.0) rs ≡ true
    passes [] e t = absurd cc
    passes (r ∷ rs) e t = elim (cases_Bool (same_pair q r)) [
      | inl s ↦ ap (λ b. b || list_any (λ p. test p.0) rs)
          (subst (λ (v : List ℕ). test v ≡ true) (same_is q.0 r.0 (and_parts (same_bytes q.0 r.0) (same_bytes q.1 r.1) s).0) t)
      | inr s ↦ or_right (test r.0) (list_any (λ p. test p.0) rs) (passes rs (sym (ap (λ b. b || has_pair rs q) s) ∙ e) t)
    ]

    old : (a b c : Bool) → (b ≡ true → a ≡ true) → (a || c) ≡ (a || (b || c))
    old true b c h = refl
    old false true c h = absurd (both_ways false refl (h refl))
    old false false c h = refl

    new : (a b c : Bool) → ((a || (b || false)) || c) ≡ (a || (b || c))
    new true b c = refl
    new false true c = refl
    new false false c = refl

    by : (b : Bool) → has_pair ps q ≡ b → ((rs : List (List ℕ × List ℕ))
        → list_any (λ p. test p.0) (gathered_pairs rs qs) ≡ (list_any (λ p. test p.0) rs || list_any (λ p. test p.0) qs))
        → list_any (λ p. test p.0) (gathered_pairs ps (q ∷ qs)) ≡ (list_any (λ p. test p.0) ps || (test q.0 || list_any (λ p. test p.0) qs))
    by true e rest =
        ap (λ b. list_any (λ p. test p.0) (gathered_pairs (cond b ps (ps ++ q ∷ [])) qs)) e ∙ rest ps
        ∙ old (list_any (λ p. test p.0) ps) (test q.0) (list_any (λ p. test p.0) qs) (passes ps e)
    by false e rest =
        ap (λ b. list_any (λ p. test p.0) (gathered_pairs (cond b ps (ps ++ q ∷ [])) qs)) e ∙ rest (ps ++ q ∷ [])
        ∙ ap (λ b. b || list_any (λ p. test p.0) qs) (list_any-append (λ p. test p.0) ps (q ∷ []))
        ∙ new (list_any (λ p. test p.0) ps) (test q.0) (list_any (λ p. test p.0) qs)

any_map_same : {X : Type 0} (f : X → List ℕ) (p q : List ℕ → Bool) → ((w : List ℕ) → p w ≡ q w) → (xs : List X)
    → list_any p (map f xs) ≡ list_any (λ x. q (f x)) xs
any_map_same f p q same [] = refl
any_map_same f p q same (x ∷ xs) = ap (λ b. b || list_any p (map f xs)) (same (f x)) ∙ ap (λ b. q (f x) || b) (any_map_same f p q same xs)

-- a first name stands in over 16 of the gathered pairs where it has over 16 different second names
pub crowd_wide : (ps : List (List ℕ × List ℕ)) → has_crowd 16 (map (λ p. p.0) (gathered_pairs [] ps)) ≡ has_wide ps
crowd_wide ps =
    let kept = gathered_pairs [] ps in
    any_map_same (λ (p : List ℕ × List ℕ). p.0) (λ w. ltb 16 (times w (map (λ p. p.0) kept))) (λ w. ltb 16 (count_texts (names_with w ps)))
    (λ w. ap (ltb 16) (times_with w kept ∙ sym (count_with w [] ps refl))) kept
    ∙ any_gathered (λ w. ltb 16 (count_texts (names_with w ps))) [] ps
