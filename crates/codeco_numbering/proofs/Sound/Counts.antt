-- How many numbers are given by first occurrence.
use Rattle.std.proofs.Common.{◌≡◌, ℕ, ◌+◌, ◌≤◌, Bool, true, false, ◌&&◌, ◌||◌, cond, eqb, List, [], ◌∷◌, ◌++◌, map, length, refl, sym, ap, ◌∙◌, arith, inl, inr}
use Rattle.std.specs.List.{list_all}
use Rattle.std.proofs.lemmas.List.{length-append}
use Rattle.std.proofs.lemmas.Bool.{and_parts, and_from, or_left, or_right, or_from, cases_Bool, eq-eqb, ne_eqb, both_ways, cond-true, cond-false}
use Rattle.codeco_text.specs.Names.{same_bytes, is_among}
use Rattle.codeco_text.proofs.Growth.{same_is, same_bytes_refl}
use Rattle.codeco_checked.specs.Numbering.{has, count_different}
use Rattle.codeco_checked.specs.Faults.{count_texts}
use Rattle.codeco_numbering.specs.Numbered.{gathered, number_of}
use Rattle.wiki_base.proofs.ListLaws.{all_weaken}
use Rattle.codeco_numbering.proofs.Sound.Tables.{is_same, differs_comm, among_append, among_words, number_injective}

-- words that are all among names

pub all_self : (ws : List (List ℕ)) → list_all (is_among ws) ws ≡ true
all_self [] = refl
all_self (w ∷ ws) =
    and_from (is_among (w ∷ ws) w) (list_all (is_among (w ∷ ws)) ws) (or_left (same_bytes w w) (is_among ws w) (same_bytes_refl w))
    (all_weaken (is_among ws) (is_among (w ∷ ws)) (λ v h. or_right (same_bytes v w) (is_among ws v) h) ws (all_self ws))

pub all_gathered : (names ws : List (List ℕ)) → list_all (is_among (gathered names ws)) ws ≡ true
all_gathered names ws = all_weaken (is_among ws) (is_among (gathered names ws)) (λ w h. among_words names ws w h) ws (all_self ws)

-- the number of a member is had where the word is
pub has_number : (names ws : List (List ℕ)) (w : List ℕ) → is_among names w ≡ true → has (map (number_of names) ws) (number_of names w) ≡ is_among ws w
has_number names [] w h = refl
has_number names (u ∷ us) w h = ap (λ b. b || has (map (number_of names) us) (number_of names w)) here ∙ ap (λ b. same_bytes w u || b) (has_number names us w h)
  where
    here : eqb (number_of names w) (number_of names u) ≡ same_bytes w u
    here = elim (cases_Bool (same_bytes w u)) [
      | inl e ↦ eq-eqb (number_of names w) (number_of names u) (ap (number_of names) (same_is w u e)) ∙ sym e
      | inr e ↦ ne_eqb (number_of names w) (number_of names u) (λ p. both_ways (same_bytes w u) e (is_same w u (number_injective names w u h p))) ∙ sym e
    ]

abbrev fresh_count : Bool → ℕ
fresh_count b = cond b 0 1

abbrev known_count : Bool → ℕ
known_count b = cond b 1 0

-- words have as many different numbers as there are different ones among them
pub count_numbers : (names ws : List (List ℕ)) → list_all (is_among names) ws ≡ true → count_different (map (number_of names) ws) ≡ count_texts ws
count_numbers names [] h = refl
count_numbers names (w ∷ ws) h =
    let parts = and_parts (is_among names w) (list_all (is_among names) ws) h in
    ap (λ n. n + fresh_count (has (map (number_of names) ws) (number_of names w))) (count_numbers names ws parts.1)
    ∙ ap (λ b. count_texts ws + fresh_count b) (has_number names ws w parts.0)

-- how many words there are that aren't among the names, each counted once
abbrev others : List (List ℕ) → List (List ℕ) → ℕ
others names [] = 0
others names (w ∷ ws) = others names ws + fresh_count (is_among names w || is_among ws w)

others_push : (names ws : List (List ℕ)) (w : List ℕ) → is_among names w ≡ false → others names ws ≡ others (names ++ w ∷ []) ws + known_count (is_among ws w)
others_push names [] w h = refl
others_push names (u ∷ us) w h =
    let grown = names ++ w ∷ [] in
    let rest = others_push names us w h in
    elim (cases_Bool (same_bytes w u)) [
      | inl e ↦
          let same = same_is w u e in
          let new : is_among names u ≡ false = ap (is_among names) (sym same) ∙ h in
          let old : is_among grown u ≡ true =
          among_append names (w ∷ []) u ∙ or_right (is_among names u) (is_among (w ∷ []) u) (or_left (same_bytes u w) false (is_same u w (sym same))) in
          let left : fresh_count (is_among names u || is_among us u) ≡ fresh_count (is_among us w) =
          ap (λ b. fresh_count (b || is_among us u)) new ∙ ap (λ v. fresh_count (is_among us v)) (sym same) in
          let right : fresh_count (is_among grown u || is_among us u) ≡ 0 =
          cond-true {A = ℕ} (is_among grown u || is_among us u) 0 1 (or_left (is_among grown u) (is_among us u) old) in
          let one : known_count (same_bytes w u || is_among us w) ≡ 1 =
          cond-true {A = ℕ} (same_bytes w u || is_among us w) 1 0 (or_left (same_bytes w u) (is_among us w) e) in
          elim (cases_Bool (is_among us w)) [
            | inl more ↦
                let a = cond-true {A = ℕ} (is_among us w) 1 0 more in
                let b = cond-true {A = ℕ} (is_among us w) 0 1 more in
                omega arith
            | inr last ↦
                let a = cond-false {A = ℕ} (is_among us w) 1 0 last in
                let b = cond-false {A = ℕ} (is_among us w) 0 1 last in
                omega arith
          ]
      | inr e ↦
          let one : is_among grown u ≡ is_among names u = among_append names (w ∷ []) u ∙ plain (is_among names u) (same_bytes u w) (differs_comm w u e) in
          let left : fresh_count (is_among grown u || is_among us u) ≡ fresh_count (is_among names u || is_among us u) =
          ap (λ b. fresh_count (b || is_among us u)) one in
          let right : known_count (same_bytes w u || is_among us w) ≡ known_count (is_among us w) = ap (λ b. known_count (b || is_among us w)) e in
          omega arith
    ]
  where
    plain : (a b : Bool) → b ≡ false → (a || (b || false)) ≡ a
    plain true b k = refl
    plain false b k = or_from b false k refl

length_gathered : (names ws : List (List ℕ)) → length (gathered names ws) ≡ length names + others names ws
length_gathered names [] = omega arith
length_gathered names (u ∷ us) =
    elim (cases_Bool (is_among names u)) [
      | inl old ↦
          let none : fresh_count (is_among names u || is_among us u) ≡ 0 =
          cond-true {A = ℕ} (is_among names u || is_among us u) 0 1 (or_left (is_among names u) (is_among us u) old) in
          let rest = length_gathered names us in
          ap (λ x. length (gathered x us)) (cond-true (is_among names u) names (names ++ u ∷ []) old) ∙ omega arith
      | inr new ↦
          let grown = names ++ u ∷ [] in
          let rest = length_gathered grown us in
          let push = others_push names us u new in
          let one : length grown ≡ length names + 1 = length-append names (u ∷ []) in
          let first : fresh_count (is_among names u || is_among us u) ≡ fresh_count (is_among us u) = ap (λ b. fresh_count (b || is_among us u)) new in
          ap (λ x. length (gathered x us)) (cond-false (is_among names u) names grown new)
          ∙ elim (cases_Bool (is_among us u)) [
            | inl more ↦
                let a = cond-true {A = ℕ} (is_among us u) 1 0 more in
                let b = cond-true {A = ℕ} (is_among us u) 0 1 more in
                omega arith
            | inr last ↦
                let a = cond-false {A = ℕ} (is_among us u) 1 0 last in
                let b = cond-false {A = ℕ} (is_among us u) 0 1 last in
                omega arith
          ]
    ]

others_all : (ws : List (List ℕ)) → others [] ws ≡ count_texts ws
others_all [] = refl
others_all (w ∷ ws) = ap (λ n. n + fresh_count (is_among ws w)) (others_all ws)

-- as many names are gathered as there are different words
pub length_gathered_all : (ws : List (List ℕ)) → length (gathered [] ws) ≡ count_texts ws
length_gathered_all ws = let e = length_gathered [] ws in let a = others_all ws in omega arith

-- words have as many different numbers as there are names gathered from them
pub count_gathered : (ws : List (List ℕ)) → count_different (map (number_of (gathered [] ws)) ws) ≡ length (gathered [] ws)
count_gathered ws = count_numbers (gathered [] ws) ws (all_gathered [] ws) ∙ sym (length_gathered_all ws)
