-- The pairs of a list in order that begin with one element stand together.
use Rattle.std.proofs.Common.{◌≡◌, ℕ, zero, suc, ◌+◌, ◌-◌, ◌≤◌, ◌==◌, ltb, leb, Bool, true, false, List, [], ◌∷◌, length, get_or, take, drop, filter, IsSorted, cond, subst, refl, sym, ap, ◌∙◌, arith}
use Rattle.std.specs.Ordering.{is_lt}
use Rattle.std.specs.List.Sorted.{IsNonDecreasingBy, IsPartitionPoint}
use Rattle.std.proofs.lemmas.Bool.{ltb-true, ltb-false, leb-true, leb-false, ne_eqb, eq-eqb}
use Rattle.std.proofs.lemmas.Bool.Decides.{nat_tests}
use Rattle.std.proofs.lemmas.List.Sorted.{IsNonDecreasingBy-from_all_adjacent}
use Rattle.owl_eval.specs.Pairs.{pair_cmp}

first_rises : (p q : ℕ × ℕ) → is_lt (pair_cmp q p) ≡ false → p.0 ≤ q.0
first_rises p q h = grind (arith, nat_tests)

pub firsts_rise : (ps : List (ℕ × ℕ)) → IsSorted pair_cmp ps → IsNonDecreasingBy (λ p. p.0) ps
firsts_rise ps up =
    IsNonDecreasingBy-from_all_adjacent (λ p. p.0) ps (λ k d lt. first_rises (get_or ps k d) (get_or ps (k + 1) d) (up k d (omega arith) lt))

-- whether a pair begins below x, and not above it
abbrev pub below : ℕ → ℕ × ℕ → Bool
below x p = ltb p.0 x

abbrev pub upto : ℕ → ℕ × ℕ → Bool
upto x p = leb p.0 x

-- the pairs that pass the test are those before a place
abbrev pub Parts : (ℕ × ℕ → Bool) → List (ℕ × ℕ) → ℕ → Type 0
Parts test ps s = IsPartitionPoint (λ p. test p ≡ true) (λ p. test p ≡ false) ps s

abbrev pub StartsAt : List (ℕ × ℕ) → ℕ → ℕ → Type 0
StartsAt ps x s = Parts (below x) ps s

abbrev pub EndsAt : List (ℕ × ℕ) → ℕ → ℕ → Type 0
EndsAt ps x e = Parts (upto x) ps e

-- such a place is one lower in the tail
tail_point : (test : ℕ × ℕ → Bool) (p : ℕ × ℕ) (ps : List (ℕ × ℕ)) (s : ℕ) → Parts test (p ∷ ps) (suc s) → Parts test ps s
tail_point test p ps s h = (λ k d low high. h.0 (suc k) d (omega arith) (omega arith), λ k d low high. h.1 (suc k) d (omega arith) (omega arith))

tail_point_zero : (test : ℕ × ℕ → Bool) (p : ℕ × ℕ) (ps : List (ℕ × ℕ)) → Parts test (p ∷ ps) 0 → Parts test ps 0
tail_point_zero test p ps h = (λ k d low high. absurd (omega arith), λ k d low high. h.1 (suc k) d (omega arith) (omega arith))

head_in : (test : ℕ × ℕ → Bool) (p : ℕ × ℕ) (ps : List (ℕ × ℕ)) (s : ℕ) → Parts test (p ∷ ps) (suc s) → test p ≡ true
head_in test p ps s h = h.0 0 p (omega arith) (omega arith)

head_out : (test : ℕ × ℕ → Bool) (p : ℕ × ℕ) (ps : List (ℕ × ℕ)) → Parts test (p ∷ ps) 0 → test p ≡ false
head_out test p ps h = h.1 0 p (omega arith) (omega arith)

-- the pair before both places begins below x, the one between them with x, and the one after both above x
not_here : (x : ℕ) (p : ℕ × ℕ) (ps : List (ℕ × ℕ)) → (p.0 ≡ x → ⊥) → filter (λ q. q.0 == x) (p ∷ ps) ≡ filter (λ q. q.0 == x) ps
not_here x p ps ne = ap (λ b. cond b (p ∷ filter (λ q. q.0 == x) ps) (filter (λ q. q.0 == x) ps)) (ne_eqb p.0 x ne)

here : (x : ℕ) (p : ℕ × ℕ) (ps : List (ℕ × ℕ)) → p.0 ≡ x → filter (λ q. q.0 == x) (p ∷ ps) ≡ p ∷ filter (λ q. q.0 == x) ps
here x p ps e = ap (λ b. cond b (p ∷ filter (λ q. q.0 == x) ps) (filter (λ q. q.0 == x) ps)) (eq-eqb p.0 x e)

none_between : (x : ℕ) (ps : List (ℕ × ℕ)) → StartsAt ps x 0 → EndsAt ps x 0 → filter (λ q. q.0 == x) ps ≡ []
none_between x [] start end = refl
none_between x (p ∷ ps) start end =
    not_here x p ps (λ e. omega (arith, leb-false p.0 x (head_out (upto x) p ps end)))
    ∙ none_between x ps (tail_point_zero (below x) p ps start) (tail_point_zero (upto x) p ps end)

front_is_filter : (x : ℕ) (ps : List (ℕ × ℕ)) (e : ℕ) → e ≤ length ps → StartsAt ps x 0 → EndsAt ps x e → take e ps ≡ filter (λ q. q.0 == x) ps
front_is_filter x ps zero le start end = sym (none_between x ps start end)
front_is_filter x [] (suc e) le start end = absurd (omega arith)
front_is_filter x (p ∷ ps) (suc e) le start end =
    let low : x ≤ p.0 = ltb-false p.0 x (head_out (below x) p ps start) in
    let high : p.0 ≤ x = leb-true p.0 x (head_in (upto x) p ps e end) in
    ap (λ rest. p ∷ rest) (front_is_filter x ps e (omega arith) (tail_point_zero (below x) p ps start) (tail_point (upto x) p ps e end))
    ∙ sym (here x p ps (omega arith))

pub starts_first : (x : ℕ) (ps : List (ℕ × ℕ)) (s e : ℕ) → s ≤ length ps → StartsAt ps x s → EndsAt ps x e → s ≤ e
starts_first x ps zero e le start end = omega arith
starts_first x [] (suc s) e le start end = absurd (omega arith)
starts_first x (p ∷ ps) (suc s) zero le start end =
    absurd (omega (arith, ltb-true p.0 x (head_in (below x) p ps s start), leb-false p.0 x (head_out (upto x) p ps end)))
starts_first x (p ∷ ps) (suc s) (suc e) le start end =
    omega (arith, starts_first x ps s e (omega arith) (tail_point (below x) p ps s start) (tail_point (upto x) p ps e end))

run_by_count : (x : ℕ) (ps : List (ℕ × ℕ)) (s n : ℕ) → s + n ≤ length ps → StartsAt ps x s → EndsAt ps x (s + n)
    → take n (drop s ps) ≡ filter (λ q. q.0 == x) ps
run_by_count x ps zero n le start end = front_is_filter x ps n (omega arith) start (subst (EndsAt ps x) (omega arith) end)
run_by_count x [] (suc s) n le start end = absurd (omega arith)
run_by_count x (p ∷ ps) (suc s) n le start end =
    let next : EndsAt (p ∷ ps) x (suc (s + n)) = subst (EndsAt (p ∷ ps) x) (omega arith) end in
    run_by_count x ps s n (omega arith) (tail_point (below x) p ps s start) (tail_point (upto x) p ps (s + n) next)
    ∙ sym (not_here x p ps (λ e. omega (arith, ltb-true p.0 x (head_in (below x) p ps s start))))

pub run_is_filter : (x : ℕ) (ps : List (ℕ × ℕ)) (s e : ℕ) → s ≤ length ps → e ≤ length ps → StartsAt ps x s → EndsAt ps x e
    → take (e - s) (drop s ps) ≡ filter (λ q. q.0 == x) ps
run_is_filter x ps s e ls le start end =
    let first : s ≤ e = starts_first x ps s e ls start end in
    run_by_count x ps s (e - s) (omega arith) start (subst (EndsAt ps x) (omega arith) end)
