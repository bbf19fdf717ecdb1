-- How many names there are.
use Rattle.std.proofs.Common.{◌≡◌, ℕ, zero, suc, ◌+◌, ◌≤◌, Bool, true, false, not, cond, List, [], ◌∷◌, ◌++◌, map, filter, length, drop, refl, sym, ap, ◌∙◌, arith, inl, inr}
use Rattle.std.specs.List.{list_all}
use Rattle.std.proofs.lemmas.List.{length-append}
use Rattle.std.proofs.lemmas.Bool.{and_parts, and_from, or_cases, or_left, or_right, not-true, not_from_false, false_from_ne_true, both_ways}
use Rattle.codeco_text.specs.Names.{same_bytes, is_among}
use Rattle.codeco_checked.specs.Numbering.{differ}
use Rattle.codeco_checked.specs.Faults.{count_texts}
use Rattle.codeco_numbering.specs.Numbered.{gathered}
use Rattle.codeco_numbering.proofs.Gathers.{gathered_append}
use Rattle.codeco_numbering.proofs.Sound.Counts.{length_gathered_all}

-- at most each word is gathered
pub gathered_most : (names ws : List (List ℕ)) → length (gathered names ws) ≤ length names + length ws
gathered_most names [] = omega arith
gathered_most names (w ∷ ws) = by (is_among names w) (gathered_most names ws) (gathered_most (names ++ w ∷ []) ws)
  where
    by : (b : Bool) → length (gathered names ws) ≤ length names + length ws → length (gathered (names ++ w ∷ []) ws) ≤ length (names ++ w ∷ []) + length ws
        → length (gathered (cond b names (names ++ w ∷ [])) ws) ≤ length names + length (w ∷ ws)
    by true old new = omega arith
    by false old new = let e = length-append names (w ∷ []) in omega arith

count_behind : (xs ys : List (List ℕ)) → count_texts (xs ++ ys) ≤ length xs + count_texts ys
count_behind [] ys = omega arith
count_behind (x ∷ xs) ys = by (is_among (xs ++ ys) x) (count_behind xs ys)
  where
    by : (b : Bool) → count_texts (xs ++ ys) ≤ length xs + count_texts ys → count_texts (xs ++ ys) + cond b 0 1 ≤ length (x ∷ xs) + count_texts ys
    by true rest = omega arith
    by false rest = omega arith

-- behind names that were gathered, at most the different words are
pub gathered_different : (names ws : List (List ℕ)) → gathered [] names ≡ names → length (gathered names ws) ≤ length names + count_texts ws
gathered_different names ws own =
    let all : length (gathered names ws) ≡ count_texts (names ++ ws) =
    ap (λ (ns : List (List ℕ)). length (gathered ns ws)) (sym own) ∙ ap length (sym (gathered_append [] names ws)) ∙ length_gathered_all (names ++ ws) in
    let most = count_behind names ws in
    omega arith

-- where texts differ, each counts
pub differ_count : (xs : List (List ℕ)) → differ xs ≡ true → count_texts xs ≡ length xs
differ_count [] h = refl
differ_count (x ∷ xs) h =
    let parts = and_parts (not (is_among xs x)) (differ xs) h in
    let rest = differ_count xs parts.1 in
    ap (λ b. count_texts xs + cond b 0 1) (not-true (is_among xs x) parts.0) ∙ omega arith

module _ {X : Type 0} (name : X → List ℕ) (p : X → Bool) where
  filter_among : (w : List ℕ) (xs : List X) → is_among (map name (filter p xs)) w ≡ true → is_among (map name xs) w ≡ true
  filter_among w [] h = h
  filter_among w (x ∷ xs) h = by (p x) h (filter_among w xs)
    where
      by : (b : Bool) → is_among (map name (cond b (x ∷ filter p xs) (filter p xs))) w ≡ true
          → (is_among (map name (filter p xs)) w ≡ true → is_among (map name xs) w ≡ true) → is_among (map name (x ∷ xs)) w ≡ true
      by true h rest = elim (or_cases (same_bytes w (name x)) (is_among (map name (filter p xs)) w) h) [
        | inl e ↦ or_left (same_bytes w (name x)) (is_among (map name xs) w) e
        | inr e ↦ or_right (same_bytes w (name x)) (is_among (map name xs) w) (rest e)
      ]
      by false h rest = or_right (same_bytes w (name x)) (is_among (map name xs) w) (rest h)

  -- names that differ do so in a part
  pub filter_differ : (xs : List X) → differ (map name xs) ≡ true → differ (map name (filter p xs)) ≡ true
  filter_differ [] h = h
  filter_differ (x ∷ xs) h = by (p x) (filter_differ xs (and_parts (not (is_among (map name xs) (name x))) (differ (map name xs)) h).1)
    where
      new : is_among (map name (filter p xs)) (name x) ≡ false
      new = false_from_ne_true (is_among (map name (filter p xs)) (name x))
          (λ e. both_ways (is_among (map name xs) (name x))
          (not-true (is_among (map name xs) (name x)) (and_parts (not (is_among (map name xs) (name x))) (differ (map name xs)) h).0)
          (filter_among (name x) xs e))

      by : (b : Bool) → differ (map name (filter p xs)) ≡ true → differ (map name (cond b (x ∷ filter p xs) (filter p xs))) ≡ true
      by true rest = and_from (not (is_among (map name (filter p xs)) (name x))) (differ (map name (filter p xs)))
          (not_from_false (is_among (map name (filter p xs)) (name x)) new) rest
      by false rest = rest

filter_all : {X : Type 0} (p : X → Bool) (xs : List X) → list_all p xs ≡ true → length (filter p xs) ≡ length xs
filter_all p [] h = refl
filter_all p (x ∷ xs) h =
    let parts = and_parts (p x) (list_all p xs) h in
    let rest = filter_all p xs parts.1 in
    ap (λ b. length (cond b (x ∷ filter p xs) (filter p xs))) parts.0 ∙ omega arith

-- where all behind the first ones pass, a list is hardly longer than what passes
pub filter_behind : {X : Type 0} (p : X → Bool) (k : ℕ) (xs : List X) → list_all p (drop k xs) ≡ true → length xs ≤ k + length (filter p xs)
filter_behind p k [] h = omega arith
filter_behind p zero (x ∷ xs) h = let e = filter_all p (x ∷ xs) h in omega arith
filter_behind p (suc k) (x ∷ xs) h = by (p x) (filter_behind p k xs h)
  where
    by : (b : Bool) → length xs ≤ k + length (filter p xs) → length (x ∷ xs) ≤ suc k + length (cond b (x ∷ filter p xs) (filter p xs))
    by true rest = omega arith
    by false rest = omega arith
