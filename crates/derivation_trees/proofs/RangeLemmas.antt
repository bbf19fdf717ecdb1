-- Numbers put among others in order are those of a range that are among them.
use Rattle.std.proofs.Common.{◌≡◌, ℕ, zero, suc, ◌+◌, ◌<◌, ◌≤◌, Bool, true, false, ◌||◌, cond, List, [], ◌∷◌, filter, refl, sym, ap, ◌∙◌, arith, inl, inr}
use Rattle.std.specs.Prelude.{if◌then◌else◌, ◌==◌}
use Rattle.std.specs.List.{range_with_len}
use Rattle.std.proofs.lemmas.Bool.{eq-eqb, ne_eqb, lt-ltb, le-ltb, cases_order}
use Rattle.codeco_checked.specs.Numbering.{has}
use Rattle.derivation_trees.specs.Instances.{past_all}
use Rattle.derivation_trees.specs.Putting.{put, put_all}
use Rattle.derivation_trees.proofs.PutLemmas.{put_all_put}

-- the numbers of a range that are among others
abbrev kept : List ℕ → ℕ → ℕ → List ℕ
kept ws a n = filter (has ws) (range_with_len a n)

put_first : (w y : ℕ) (ys : List ℕ) → w < y → put w (y ∷ ys) ≡ w ∷ y ∷ ys
put_first w y ys lt =
    ap (λ b. if b then y ∷ put w ys else (if w == y then y ∷ ys else w ∷ y ∷ ys)) (le-ltb y w (omega arith))
    ∙ ap (λ b. if b then y ∷ ys else w ∷ y ∷ ys) (ne_eqb w y (λ e. omega arith))

put_same : (w : ℕ) (ys : List ℕ) → put w (w ∷ ys) ≡ w ∷ ys
put_same w ys =
    ap (λ b. if b then w ∷ put w ys else (if w == w then w ∷ ys else w ∷ w ∷ ys)) (le-ltb w w (omega arith))
    ∙ ap (λ b. if b then w ∷ ys else w ∷ w ∷ ys) (eq-eqb w w refl)

put_behind : (w y : ℕ) (ys : List ℕ) → y < w → put w (y ∷ ys) ≡ y ∷ put w ys
put_behind w y ys lt = ap (λ b. if b then y ∷ put w ys else (if w == y then y ∷ ys else w ∷ y ∷ ys)) (lt-ltb y w lt)

-- a number is put before a range above it
put_below : (w : ℕ) (ws : List ℕ) (a n : ℕ) → w < a → put w (kept ws a n) ≡ w ∷ kept ws a n
put_below w ws a zero lt = refl
put_below w ws a (suc n) lt = by (has ws a) (put_below w ws (a + 1) n (omega arith))
  where
    by : (b : Bool) → put w (kept ws (a + 1) n) ≡ w ∷ kept ws (a + 1) n
        → put w (cond b (a ∷ kept ws (a + 1) n) (kept ws (a + 1) n)) ≡ w ∷ cond b (a ∷ kept ws (a + 1) n) (kept ws (a + 1) n)
    by true rest = put_first w a (kept ws (a + 1) n) lt
    by false rest = rest

-- one number more makes no difference in a range above it
kept_above : (w : ℕ) (ws : List ℕ) (a n : ℕ) → w < a → kept (w ∷ ws) a n ≡ kept ws a n
kept_above w ws a zero lt = refl
kept_above w ws a (suc n) lt =
    ap (λ b. cond (b || has ws a) (a ∷ kept (w ∷ ws) (a + 1) n) (kept (w ∷ ws) (a + 1) n)) (ne_eqb a w (λ e. omega arith))
    ∙ ap (λ xs. cond (has ws a) (a ∷ xs) xs) (kept_above w ws (a + 1) n (omega arith))

-- a number of the range is put where the range has it
put_kept : (w : ℕ) (ws : List ℕ) (a n : ℕ) → a ≤ w → w < a + n → put w (kept ws a n) ≡ kept (w ∷ ws) a n
put_kept w ws a zero le lt = absurd (omega arith)
put_kept w ws a (suc n) le lt = elim (cases_order a w) [
  | inl same ↦ at_first (has ws a) same ∙ ap (λ b. cond (b || has ws a) (a ∷ kept (w ∷ ws) (a + 1) n) (kept (w ∷ ws) (a + 1) n)) (sym (eq-eqb a w same))
  | inr other ↦ elim other [
    | inl less ↦
        behind (has ws a) less (put_kept w ws (a + 1) n (omega arith) (omega arith))
        ∙ ap (λ b. cond (b || has ws a) (a ∷ kept (w ∷ ws) (a + 1) n) (kept (w ∷ ws) (a + 1) n)) (sym (ne_eqb a w (λ e. omega arith)))
    | inr more ↦ absurd (omega arith)
  ]
]
  where
    at_first : (b : Bool) → a ≡ w → put w (cond b (a ∷ kept ws (a + 1) n) (kept ws (a + 1) n)) ≡ a ∷ kept (w ∷ ws) (a + 1) n
    at_first true same =
        ap (λ x. put x (a ∷ kept ws (a + 1) n)) (sym same) ∙ put_same a (kept ws (a + 1) n)
        ∙ ap (λ xs. a ∷ xs) (sym (kept_above w ws (a + 1) n (omega arith)))
    at_first false same =
        put_below w ws (a + 1) n (omega arith) ∙ ap (λ x. x ∷ kept ws (a + 1) n) (sym same)
        ∙ ap (λ xs. a ∷ xs) (sym (kept_above w ws (a + 1) n (omega arith)))

    behind : (b : Bool) → a < w → put w (kept ws (a + 1) n) ≡ kept (w ∷ ws) (a + 1) n
        → put w (cond b (a ∷ kept ws (a + 1) n) (kept ws (a + 1) n)) ≡ cond b (a ∷ kept (w ∷ ws) (a + 1) n) (kept (w ∷ ws) (a + 1) n)
    behind true less rest = put_behind w a (kept ws (a + 1) n) less ∙ ap (λ xs. a ∷ xs) rest
    behind false less rest = rest

-- behind all of them there is none
has_past : (ws : List ℕ) (x : ℕ) → past_all ws ≤ x → has ws x ≡ false
has_past [] x le = refl
has_past (w ∷ ws) x le = ap (λ b. b || has ws x) (ne_eqb x w (λ e. omega arith)) ∙ has_past ws x (omega arith)

kept_past : (ws : List ℕ) (a n : ℕ) → past_all ws ≤ a → kept ws a n ≡ []
kept_past ws a zero le = refl
kept_past ws a (suc n) le =
    ap (λ b. cond b (a ∷ kept ws (a + 1) n) (kept ws (a + 1) n)) (has_past ws a le) ∙ kept_past ws (a + 1) n (omega arith)

kept_longer : (ws : List ℕ) (a n m : ℕ) → past_all ws ≤ a + n → n ≤ m → kept ws a m ≡ kept ws a n
kept_longer ws a zero m le more = kept_past ws a m (omega arith)
kept_longer ws a (suc n) zero le more = absurd (omega arith)
kept_longer ws a (suc n) (suc m) le more = ap (λ xs. cond (has ws a) (a ∷ xs) xs) (kept_longer ws (a + 1) n m (omega arith) (omega arith))

-- numbers put in order, each once, are those of the range up to the greatest that are among them
pub put_all_range : (ws : List ℕ) → put_all [] ws ≡ filter (has ws) (range_with_len 0 (past_all ws))
put_all_range [] = refl
put_all_range (w ∷ ws) =
    put_all_put w [] ws ∙ ap (put w) (put_all_range ws ∙ sym (kept_longer ws 0 (past_all ws) (past_all (w ∷ ws)) (omega arith) (omega arith)))
    ∙ put_kept w ws 0 (past_all (w ∷ ws)) (omega arith) (omega arith)
