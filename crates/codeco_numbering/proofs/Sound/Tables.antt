-- Tables of names that are gathered, and the numbers that they give.
use Rattle.std.proofs.Common.{◌≡◌, ℕ, suc, ◌+◌, ◌<◌, Bool, true, false, not, ◌&&◌, ◌||◌, cond, eqb, ltb, List, [], ◌∷◌, ◌++◌, map, length, Some, refl, sym, ap, subst, ◌∙◌, arith, inl, inr}
use Rattle.std.specs.Prelude.{slice_get}
use Rattle.std.proofs.lemmas.List.{length-append}
use Rattle.std.proofs.lemmas.Bool.{and_parts, and_from, or_parts, or_cases, or_left, or_right, or_from, cases_Bool, lt-ltb, le-ltb, eq-eqb, both_ways, cond-true, cond-false, not-true, not_from_false, false_from_ne_true}
use Rattle.codeco_text.specs.Names.{same_bytes, is_among}
use Rattle.codeco_text.proofs.Growth.{same_is, same_bytes_refl}
use Rattle.codeco_checked.specs.Numbering.{counts_up, differ}
use Rattle.codeco_numbering.specs.Numbered.{gathered, number_of}

pub is_same : (v w : List ℕ) → v ≡ w → same_bytes v w ≡ true
is_same v w e = subst (λ x. same_bytes v x ≡ true) e (same_bytes_refl v)

pub differs_comm : (v w : List ℕ) → same_bytes v w ≡ false → same_bytes w v ≡ false
differs_comm v w h = false_from_ne_true (same_bytes w v) (λ e. both_ways (same_bytes v w) h (is_same v w (sym (same_is w v e))))

-- Members

pub among_append : (xs ys : List (List ℕ)) (w : List ℕ) → is_among (xs ++ ys) w ≡ (is_among xs w || is_among ys w)
among_append [] ys w = refl
among_append (x ∷ xs) ys w = ap (λ b. same_bytes w x || b) (among_append xs ys w) ∙ sym (or_three (same_bytes w x) (is_among xs w) (is_among ys w))
  where
    or_three : (a b c : Bool) → ((a || b) || c) ≡ (a || (b || c))
    or_three true b c = refl
    or_three false b c = refl

-- the names that are gathered have these words, and those before them
pub among_first : (names ws : List (List ℕ)) (w : List ℕ) → is_among names w ≡ true → is_among (gathered names ws) w ≡ true
among_first names [] w h = h
among_first names (u ∷ ws) w h =
    elim (cases_Bool (is_among names u)) [
      | inl old ↦ ap (λ x. is_among (gathered x ws) w) (cond-true (is_among names u) names (names ++ u ∷ []) old) ∙ among_first names ws w h
      | inr new ↦
          ap (λ x. is_among (gathered x ws) w) (cond-false (is_among names u) names (names ++ u ∷ []) new)
          ∙ among_first (names ++ u ∷ []) ws w (among_append names (u ∷ []) w ∙ or_left (is_among names w) (is_among (u ∷ []) w) h)
    ]

pub among_words : (names ws : List (List ℕ)) (w : List ℕ) → is_among ws w ≡ true → is_among (gathered names ws) w ≡ true
among_words names [] w h = absurd cc
among_words names (u ∷ ws) w h =
    let grown = cond (is_among names u) names (names ++ u ∷ []) in
    elim (or_cases (same_bytes w u) (is_among ws w) h) [
      | inl e ↦
          let same = same_is w u e in
          among_first grown ws w
          (elim (cases_Bool (is_among names u)) [
            | inl old ↦ ap (λ x. is_among x w) (cond-true (is_among names u) names (names ++ u ∷ []) old) ∙ ap (is_among names) same ∙ old
            | inr new ↦
                ap (λ x. is_among x w) (cond-false (is_among names u) names (names ++ u ∷ []) new)
                ∙ among_append names (u ∷ []) w
                ∙ or_right (is_among names w) (is_among (u ∷ []) w) (or_left (same_bytes w u) false e)
          ])
      | inr more ↦ among_words grown ws w more
    ]

pub among_neither : (names ws : List (List ℕ)) (w : List ℕ) → is_among names w ≡ false → is_among ws w ≡ false → is_among (gathered names ws) w ≡ false
among_neither names [] w h k = h
among_neither names (u ∷ ws) w h k =
    let parts = or_parts (same_bytes w u) (is_among ws w) k in
    elim (cases_Bool (is_among names u)) [
      | inl old ↦ ap (λ x. is_among (gathered x ws) w) (cond-true (is_among names u) names (names ++ u ∷ []) old) ∙ among_neither names ws w h parts.1
      | inr new ↦
          ap (λ x. is_among (gathered x ws) w) (cond-false (is_among names u) names (names ++ u ∷ []) new)
          ∙ among_neither (names ++ u ∷ []) ws w
          (among_append names (u ∷ []) w ∙ or_from (is_among names w) (is_among (u ∷ []) w) h (or_from (same_bytes w u) false parts.0 refl)) parts.1
    ]

-- a word is among the names that are gathered if it is among the first ones or the words
pub among_gathered : (names ws : List (List ℕ)) (w : List ℕ) → is_among (gathered names ws) w ≡ (is_among names w || is_among ws w)
among_gathered names ws w =
    elim (cases_Bool (is_among names w)) [
      | inl a ↦ among_first names ws w a ∙ sym (or_left (is_among names w) (is_among ws w) a)
      | inr a ↦
          elim (cases_Bool (is_among ws w)) [
            | inl b ↦ among_words names ws w b ∙ sym (or_right (is_among names w) (is_among ws w) b)
            | inr b ↦ among_neither names ws w a b ∙ sym (or_from (is_among names w) (is_among ws w) a b)
          ]
    ]

-- Numbers

-- a member's number is below the length
pub number_below : (names : List (List ℕ)) (w : List ℕ) → is_among names w ≡ true → number_of names w < length names
number_below [] w h = absurd cc
number_below (x ∷ xs) w h =
    elim (cases_Bool (same_bytes w x)) [
      | inl here ↦ let e = cond-true (same_bytes w x) 0 (number_of xs w + 1) here in omega arith
      | inr other ↦
          let e = cond-false (same_bytes w x) 0 (number_of xs w + 1) other in
          let among : is_among xs w ≡ true = sym (ap (λ b. b || is_among xs w) other) ∙ h in
          let lt = number_below xs w among in
          omega arith
    ]

-- the number of a word that is none of them is their length
pub number_past : (names : List (List ℕ)) (w : List ℕ) → is_among names w ≡ false → number_of names w ≡ length names
number_past [] w h = refl
number_past (x ∷ xs) w h =
    let parts = or_parts (same_bytes w x) (is_among xs w) h in
    let rest = number_past xs w parts.1 in
    cond-false (same_bytes w x) 0 (number_of xs w + 1) parts.0 ∙ omega arith

pub among_from_number : (names : List (List ℕ)) (w : List ℕ) → number_of names w < length names → is_among names w ≡ true
among_from_number names w lt =
    elim (cases_Bool (is_among names w)) [
      | inl h ↦ h
      | inr h ↦ let e = number_past names w h in absurd (omega arith)
    ]

-- a member stands at its number
pub name_of_number : (names : List (List ℕ)) (w : List ℕ) → is_among names w ≡ true → slice_get names (number_of names w) ≡ Some w
name_of_number [] w h = absurd cc
name_of_number (x ∷ xs) w h =
    elim (cases_Bool (same_bytes w x)) [
      | inl here ↦ ap (slice_get (x ∷ xs)) (cond-true (same_bytes w x) 0 (number_of xs w + 1) here) ∙ ap (λ (v : List ℕ). Some v) (sym (same_is w x here))
      | inr other ↦
          let among : is_among xs w ≡ true = sym (ap (λ b. b || is_among xs w) other) ∙ h in
          let up : number_of xs w + 1 ≡ suc (number_of xs w) = omega arith in
          ap (slice_get (x ∷ xs)) (cond-false (same_bytes w x) 0 (number_of xs w + 1) other ∙ up) ∙ name_of_number xs w among
    ]

-- members of one number are one word
pub number_injective : (names : List (List ℕ)) (v w : List ℕ) → is_among names v ≡ true → number_of names v ≡ number_of names w → v ≡ w
number_injective names v w h e =
    let lt = number_below names v h in
    let among : is_among names w ≡ true = among_from_number names w (omega arith) in
    let one : Some v ≡ Some w = sym (name_of_number names v h) ∙ ap (slice_get names) e ∙ name_of_number names w among in
    cc

-- Tables that grow

number_append : (names more : List (List ℕ)) (w : List ℕ) → is_among names w ≡ true → number_of (names ++ more) w ≡ number_of names w
number_append [] more w h = absurd cc
number_append (x ∷ xs) more w h =
    elim (cases_Bool (same_bytes w x)) [
      | inl here ↦ cond-true (same_bytes w x) 0 (number_of (xs ++ more) w + 1) here ∙ sym (cond-true (same_bytes w x) 0 (number_of xs w + 1) here)
      | inr other ↦
          let among : is_among xs w ≡ true = sym (ap (λ b. b || is_among xs w) other) ∙ h in
          cond-false (same_bytes w x) 0 (number_of (xs ++ more) w + 1) other ∙ ap (λ n. n + 1) (number_append xs more w among)
          ∙ sym (cond-false (same_bytes w x) 0 (number_of xs w + 1) other)
    ]

number_new : (names : List (List ℕ)) (w : List ℕ) → is_among names w ≡ false → number_of (names ++ w ∷ []) w ≡ length names
number_new [] w h = cond-true (same_bytes w w) 0 (0 + 1) (same_bytes_refl w)
number_new (x ∷ xs) w h =
    let parts = or_parts (same_bytes w x) (is_among xs w) h in
    let rest = number_new xs w parts.1 in
    cond-false (same_bytes w x) 0 (number_of (xs ++ w ∷ []) w + 1) parts.0 ∙ omega arith

among_push : (names : List (List ℕ)) (u w : List ℕ) → is_among names w ≡ true → is_among (names ++ u ∷ []) w ≡ true
among_push names u w h = among_append names (u ∷ []) w ∙ or_left (is_among names w) (is_among (u ∷ []) w) h

-- a name keeps its number as others are gathered
pub number_kept : (names ws : List (List ℕ)) (w : List ℕ) → is_among names w ≡ true → number_of (gathered names ws) w ≡ number_of names w
number_kept names [] w h = refl
number_kept names (u ∷ ws) w h =
    elim (cases_Bool (is_among names u)) [
      | inl old ↦ ap (λ x. number_of (gathered x ws) w) (cond-true (is_among names u) names (names ++ u ∷ []) old) ∙ number_kept names ws w h
      | inr new ↦
          ap (λ x. number_of (gathered x ws) w) (cond-false (is_among names u) names (names ++ u ∷ []) new)
          ∙ number_kept (names ++ u ∷ []) ws w (among_push names u w h)
          ∙ number_append names (u ∷ []) w h
    ]

pub differ_push : (names : List (List ℕ)) (w : List ℕ) → differ names ≡ true → is_among names w ≡ false → differ (names ++ w ∷ []) ≡ true
differ_push [] w d h = refl
differ_push (x ∷ xs) w d h =
    let ds = and_parts (not (is_among xs x)) (differ xs) d in
    let hs = or_parts (same_bytes w x) (is_among xs w) h in
    let fresh : is_among (xs ++ w ∷ []) x ≡ false =
    among_append xs (w ∷ []) x ∙ or_from (is_among xs x) (is_among (w ∷ []) x) (not-true (is_among xs x) ds.0)
    (or_from (same_bytes x w) false (differs_comm w x hs.0) refl) in
    and_from (not (is_among (xs ++ w ∷ []) x)) (differ (xs ++ w ∷ [])) (not_from_false (is_among (xs ++ w ∷ []) x) fresh) (differ_push xs w ds.1 hs.1)

-- no name stands twice among those that are gathered
pub differ_gathered : (names ws : List (List ℕ)) → differ names ≡ true → differ (gathered names ws) ≡ true
differ_gathered names [] d = d
differ_gathered names (u ∷ ws) d =
    elim (cases_Bool (is_among names u)) [
      | inl old ↦ ap (λ x. differ (gathered x ws)) (cond-true (is_among names u) names (names ++ u ∷ []) old) ∙ differ_gathered names ws d
      | inr new ↦ ap (λ x. differ (gathered x ws)) (cond-false (is_among names u) names (names ++ u ∷ []) new)
          ∙ differ_gathered (names ++ u ∷ []) ws (differ_push names u d new)
    ]

-- the numbers of words are given by first occurrence
pub gathered_counts_up : (names ws : List (List ℕ)) → counts_up (length names) (length (gathered names ws)) (map (number_of (gathered names ws)) ws) ≡ true
gathered_counts_up names [] = eq-eqb (length names) (length names) refl
gathered_counts_up names (u ∷ ws) =
    elim (cases_Bool (is_among names u)) [
      | inl old ↦
          let table = gathered names ws in
          let lt = number_below names u old in
          let number = number_kept names ws u old in
          let rest = map (number_of table) ws in
          subst (λ x. counts_up (length names) (length (gathered x ws)) (map (number_of (gathered x ws)) (u ∷ ws)) ≡ true)
          (sym (cond-true (is_among names u) names (names ++ u ∷ []) old))
          (cond-true (ltb (number_of table u) (length names)) (counts_up (length names) (length table) rest)
          (eqb (number_of table u) (length names) && counts_up (length names + 1) (length table) rest)
          (lt-ltb (number_of table u) (length names) (omega arith)) ∙ gathered_counts_up names ws)
      | inr new ↦
          let grown = names ++ u ∷ [] in
          let table = gathered grown ws in
          let among : is_among grown u ≡ true =
          among_append names (u ∷ []) u ∙ or_right (is_among names u) (is_among (u ∷ []) u) (or_left (same_bytes u u) false (same_bytes_refl u)) in
          let number : number_of table u ≡ length names = number_kept grown ws u among ∙ number_new names u new in
          let rest = map (number_of table) ws in
          let more : length grown ≡ length names + 1 = length-append names (u ∷ []) in
          let next : counts_up (length names + 1) (length table) rest ≡ true =
          subst (λ n. counts_up n (length table) rest ≡ true) more (gathered_counts_up grown ws) in
          subst (λ x. counts_up (length names) (length (gathered x ws)) (map (number_of (gathered x ws)) (u ∷ ws)) ≡ true)
          (sym (cond-false (is_among names u) names (names ++ u ∷ []) new))
          (cond-false (ltb (number_of table u) (length names)) (counts_up (length names) (length table) rest)
          (eqb (number_of table u) (length names) && counts_up (length names + 1) (length table) rest)
          (le-ltb (number_of table u) (length names) (omega arith))
          ∙ and_from (eqb (number_of table u) (length names)) (counts_up (length names + 1) (length table) rest)
          (eq-eqb (number_of table u) (length names) number) next)
    ]
