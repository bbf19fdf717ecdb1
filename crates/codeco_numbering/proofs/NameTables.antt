-- What the set of a table finds is what the list of its names says.
use Rattle.std.proofs.Common.{◌≡◌, ℕ, ◌+◌, ◌≤◌, Bool, true, false, not, cond, ◌||◌, eqb, List, [], ◌∷◌, ◌++◌, map, length, Some, None, refl, ap, ◌∙◌, ◌&&◌, arith, inl, inr}
use Rattle.std.specs.Prelude.{nat_eq}
use Rattle.std.specs.Option.{unwrap_or}
use Rattle.std.specs.List.{list_any, position, position_or_len}
use Rattle.std.specs.Cmp.Lexicographic.{pointwise}
use Rattle.std.proofs.lemmas.List.{map-append}
use Rattle.std.proofs.lemmas.List.Sums.{prefix_len-le-length}
use Rattle.std.proofs.lemmas.Bool.{cases_lt, lt-ltb, le-ltb}
use Rattle.codeco_text.specs.Names.{same_bytes, is_among}
use Rattle.codeco_numbering.specs.Numbered.{number_of}

pub pointwise_same : (xs ys : List ℕ) → pointwise nat_eq xs ys ≡ same_bytes xs ys
pointwise_same [] [] = refl
pointwise_same [] (y ∷ ys) = refl
pointwise_same (x ∷ xs) [] = refl
pointwise_same (x ∷ xs) (y ∷ ys) = λ i. eqb x y && pointwise_same xs ys i

pub number_most : (names : List (List ℕ)) (w : List ℕ) → number_of names w ≤ length names
number_most [] w = omega arith
number_most (x ∷ xs) w = let rest = number_most xs w in
    elim (same_bytes w x) as (λ b. cond b 0 (number_of xs w + 1) ≤ length (x ∷ xs)) [ true ↦ omega arith | false ↦ omega arith ]

module _ {X : Type 0} (bytes : X → List ℕ) (w : List ℕ) where
  pub any_among : (keys : List X) → list_any (λ k. pointwise nat_eq w (bytes k)) keys ≡ is_among (map bytes keys) w
  any_among [] = refl
  any_among (k ∷ ks) = λ i. pointwise_same w (bytes k) i || any_among ks i

  pub place_number : (keys : List X) → position_or_len (λ k. pointwise nat_eq w (bytes k)) keys ≡ number_of (map bytes keys) w
  place_number [] = refl
  place_number (k ∷ ks) =
      ap (λ b. cond (not b) (1 + position_or_len (λ x. pointwise nat_eq w (bytes x)) ks) 0) (pointwise_same w (bytes k))
      ∙ (let rest = place_number ks in elim (same_bytes w (bytes k)) as (λ b. cond (not b) (1 + position_or_len (λ x. pointwise nat_eq w (bytes x)) ks) 0
      ≡ cond b 0 (number_of (map bytes ks) w + 1)) [ true ↦ refl | false ↦ omega arith ])

  -- the place that a set finds, or how many keys there are, is the number
  pub found_number : (keys : List X) → unwrap_or (position (λ k. pointwise nat_eq w (bytes k)) keys) (length keys) ≡ number_of (map bytes keys) w
  found_number keys =
      let most = prefix_len-le-length (λ x. not (pointwise nat_eq w (bytes x))) keys in
      elim (cases_lt place (length keys)) [
        | inl lt ↦ ap (λ b. unwrap_or (cond b (Some place) None) (length keys)) (lt-ltb place (length keys) lt) ∙ place_number keys
        | inr ge ↦ ap (λ b. unwrap_or (cond b (Some place) None) (length keys)) (le-ltb place (length keys) ge)
            ∙ (let e : length keys ≡ place = omega arith in e) ∙ place_number keys
      ]
    where
      place : ℕ
      place = position_or_len (λ k. pointwise nat_eq w (bytes k)) keys

  pub key_added : (keys : List X) (k : X) → bytes k ≡ w
      → map bytes (cond (list_any (λ x. pointwise nat_eq w (bytes x)) keys) keys (keys ++ k ∷ []))
      ≡ cond (is_among (map bytes keys) w) (map bytes keys) (map bytes keys ++ w ∷ [])
  key_added keys k is = ap (λ b. map bytes (cond b keys (keys ++ k ∷ []))) (any_among keys) ∙ by (is_among (map bytes keys) w)
    where
      by : (b : Bool) → map bytes (cond b keys (keys ++ k ∷ [])) ≡ cond b (map bytes keys) (map bytes keys ++ w ∷ [])
      by true = refl
      by false = map-append bytes keys (k ∷ []) ∙ ap (λ x. map bytes keys ++ x ∷ []) is
