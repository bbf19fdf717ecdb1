-- Tables of names, and what their numbers are.
use Rattle.std.proofs.Common.{◌≡◌, ℕ, zero, suc, ◌+◌, ◌<◌, ◌≤◌, true, false, not, ◌&&◌, ◌||◌, eqb, ltb, List, [], ◌∷◌, ◌++◌, map, length, take, refl, sym, ap, subst, ◌∙◌, arith, inl, inr}
use Rattle.std.specs.List.{list_all, range_with_len}
use Rattle.std.proofs.lemmas.List.{take_all, take_more, get_or-take, length-take-le}
use Rattle.std.proofs.lemmas.Bool.{and_parts, and_from, or_parts, or_right, cases_Bool, ltb-true, eqb-true, cond-true, cond-false, not-true, not_from_false, agree_below_at}
use Rattle.codeco_checked.proofs.NumberingLemmas.{counted}
use Rattle.codeco_text.specs.Names.{same_bytes, is_among}
use Rattle.codeco_text.proofs.Growth.{same_is, same_bytes_refl}
use Rattle.codeco_checked.specs.Numbering.{counts_up, differ, begins_with}
use Rattle.codeco_printer.specs.Unnumbered.{name_at, letter}
use Rattle.codeco_numbering.specs.Numbered.{gathered, number_of}
use Rattle.codeco_numbering.proofs.Sound.Tables.{differs_comm}

-- a name that stands at a place is among the names
pub among_at : (names : List (List ℕ)) (n : ℕ) → n < length names → is_among names (name_at names n) ≡ true
among_at [] n lt = absurd (omega arith)
among_at (x ∷ xs) zero lt = ap (λ b. b || is_among xs x) (same_bytes_refl x)
among_at (x ∷ xs) (suc n) lt = or_right (same_bytes (name_at xs n) x) (is_among xs (name_at xs n)) (among_at xs n (omega arith))

not_among_at : (names : List (List ℕ)) (w : List ℕ) (n : ℕ) → is_among names w ≡ false → n < length names → same_bytes w (name_at names n) ≡ false
not_among_at [] w n h lt = absurd (omega arith)
not_among_at (x ∷ xs) w zero h lt = (or_parts (same_bytes w x) (is_among xs w) h).0
not_among_at (x ∷ xs) w (suc n) h lt = not_among_at xs w n (or_parts (same_bytes w x) (is_among xs w) h).1 (omega arith)

-- where names differ, each has its place as its number
pub number_at : (names : List (List ℕ)) (n : ℕ) → differ names ≡ true → n < length names → number_of names (name_at names n) ≡ n
number_at [] n h lt = absurd (omega arith)
number_at (x ∷ xs) zero h lt = cond-true (same_bytes x x) 0 (number_of xs x + 1) (same_bytes_refl x)
number_at (x ∷ xs) (suc n) h lt =
    let parts = and_parts (not (is_among xs x)) (differ xs) h in
    let other : same_bytes (name_at xs n) x ≡ false = differs_comm x (name_at xs n) (not_among_at xs x n (not-true (is_among xs x) parts.0) (omega arith)) in
    let rest = number_at xs n parts.1 (omega arith) in
    cond-false (same_bytes (name_at xs n) x) 0 (number_of xs (name_at xs n) + 1) other ∙ (ap (λ k. k + 1) rest ∙ omega arith)

-- a name isn't among those before it
fresh_at : (names : List (List ℕ)) (n : ℕ) → differ names ≡ true → n < length names → is_among (take n names) (name_at names n) ≡ false
fresh_at [] n h lt = absurd (omega arith)
fresh_at (x ∷ xs) zero h lt = refl
fresh_at (x ∷ xs) (suc n) h lt =
    let parts = and_parts (not (is_among xs x)) (differ xs) h in
    let other : same_bytes (name_at xs n) x ≡ false = differs_comm x (name_at xs n) (not_among_at xs x n (not-true (is_among xs x) parts.0) (omega arith)) in
    ap (λ b. b || is_among (take n xs) (name_at xs n)) other ∙ fresh_at xs n parts.1 (omega arith)

old_at : (names : List (List ℕ)) (next n : ℕ) → next ≤ length names → n < next → is_among (take next names) (name_at names n) ≡ true
old_at names next n most lt =
    let len : length (take next names) ≡ next = length-take-le next names most in
    subst (λ w. is_among (take next names) w ≡ true) (get_or-take next names n [] lt) (among_at (take next names) n (omega arith))

-- the names of numbers that are given by first occurrence are gathered in order of number
pub gathered_counts : (names : List (List ℕ)) (next : ℕ) (ns : List ℕ) → differ names ≡ true → counts_up next (length names) ns ≡ true
    → gathered (take next names) (map (name_at names) ns) ≡ names
gathered_counts names next [] d h = let e = eqb-true next (length names) h in take_all next names (omega arith)
gathered_counts names next (n ∷ ns) d h =
    let most = (counted next (length names) (n ∷ ns) h).0 in
    elim (cases_Bool (ltb n next)) [
      | inl low ↦
          let rest : counts_up next (length names) ns ≡ true =
          sym (cond-true (ltb n next) (counts_up next (length names) ns) (eqb n next && counts_up (next + 1) (length names) ns) low) ∙ h in
          let old = old_at names next n most (ltb-true n next low) in
          ap (λ (x : List (List ℕ)). gathered x (map (name_at names) ns))
          (cond-true (is_among (take next names) (name_at names n)) (take next names) (take next names ++ name_at names n ∷ []) old)
          ∙ gathered_counts names next ns d rest
      | inr high ↦
          let parts = and_parts (eqb n next) (counts_up (next + 1) (length names) ns)
          (sym (cond-false (ltb n next) (counts_up next (length names) ns) (eqb n next && counts_up (next + 1) (length names) ns) high) ∙ h) in
          let same : n ≡ next = eqb-true n next parts.0 in
          let more = (counted (next + 1) (length names) ns parts.1).0 in
          let lt : next < length names = omega arith in
          let fresh : is_among (take next names) (name_at names n) ≡ false =
          subst (λ k. is_among (take next names) (name_at names k) ≡ false) (sym same) (fresh_at names next d lt) in
          let grown : take next names ++ name_at names n ∷ [] ≡ take (next + 1) names =
          ap (λ k. take next names ++ name_at names k ∷ []) same ∙ sym (take_more names next [] lt) in
          ap (λ (x : List (List ℕ)). gathered x (map (name_at names) ns))
          (cond-false (is_among (take next names) (name_at names n)) (take next names) (take next names ++ name_at names n ∷ []) fresh ∙ grown)
          ∙ gathered_counts names (next + 1) ns d parts.1
    ]

pub begins_take : (xs names : List (List ℕ)) → begins_with xs names ≡ true → take (length xs) names ≡ xs
begins_take [] names h = refl
begins_take (x ∷ xs) [] h = absurd cc
begins_take (x ∷ xs) (y ∷ ys) h =
    let parts = and_parts (same_bytes x y) (begins_with xs ys) h in
    ap (λ (w : List ℕ). w ∷ take (length xs) ys) (sym (same_is x y parts.0)) ∙ ap (λ (ws : List (List ℕ)). x ∷ ws) (begins_take xs ys parts.1)

-- Letters

abbrev pub sixteen : List (List ℕ)
sixteen = map letter (range_with_len 0 16)

letter_at : (x : ℕ) → x < 16 → name_at sixteen x ≡ letter x
letter_at x lt = same_is (name_at sixteen x) (letter x) (agree_below_at (λ n. same_bytes (name_at sixteen n) (letter n)) (λ n. true) 16 x refl lt)

differ_take : (names : List (List ℕ)) (n : ℕ) → differ names ≡ true → differ (take n names) ≡ true
differ_take names zero h = refl
differ_take [] (suc n) h = refl
differ_take (x ∷ xs) (suc n) h =
    let parts = and_parts (not (is_among xs x)) (differ xs) h in
    and_from (not (is_among (take n xs) x)) (differ (take n xs))
    (not_from_false (is_among (take n xs) x) (not_among_take xs x n (not-true (is_among xs x) parts.0))) (differ_take xs n parts.1)
  where
    not_among_take : (ys : List (List ℕ)) (w : List ℕ) (k : ℕ) → is_among ys w ≡ false → is_among (take k ys) w ≡ false
    not_among_take ys w zero e = refl
    not_among_take [] w (suc k) e = refl
    not_among_take (y ∷ ys) w (suc k) e =
        let here = or_parts (same_bytes w y) (is_among ys w) e in
        ap (λ b. b || is_among (take k ys) w) here.0 ∙ not_among_take ys w k here.1

letters_differ : (k : ℕ) → differ (take k sixteen) ≡ true
letters_differ k = differ_take sixteen k refl

letters_length : (k : ℕ) → k ≤ 16 → length (take k sixteen) ≡ k
letters_length k h = length-take-le k sixteen h

-- the name of a variable below k, which is at most sixteen
pub variable_at : (k x : ℕ) → k ≤ 16 → x < k → name_at (take k sixteen) x ≡ letter x
variable_at k x most lt = get_or-take k sixteen x [] lt ∙ letter_at x (omega arith)

pub variable_number : (k x : ℕ) → k ≤ 16 → x < k → number_of (take k sixteen) (letter x) ≡ x
variable_number k x most lt =
    let len = letters_length k most in
    ap (number_of (take k sixteen)) (sym (variable_at k x most lt)) ∙ number_at (take k sixteen) x (letters_differ k) (omega arith)

letters_at : (k : ℕ) (xs : List ℕ) → k ≤ 16 → list_all (λ x. ltb x k) xs ≡ true → map letter xs ≡ map (name_at (take k sixteen)) xs
letters_at k [] most h = refl
letters_at k (x ∷ xs) most h =
    let parts = and_parts (ltb x k) (list_all (λ y. ltb y k) xs) h in
    ap (λ (w : List ℕ). w ∷ map letter xs) (sym (variable_at k x most (ltb-true x k parts.0)))
    ∙ ap (λ (ws : List (List ℕ)). name_at (take k sixteen) x ∷ ws) (letters_at k xs most parts.1)

-- the variables of a rule are gathered as letters
pub gathered_letters : (k : ℕ) (xs : List ℕ) → k ≤ 16 → counts_up 0 k xs ≡ true → gathered [] (map letter xs) ≡ take k sixteen
gathered_letters k xs most h =
    let len = letters_length k most in
    let h' : counts_up 0 (length (take k sixteen)) xs ≡ true = subst (λ n. counts_up 0 n xs ≡ true) (sym len) h in
    ap (gathered []) (letters_at k xs most (counted 0 k xs h).1) ∙ gathered_counts (take k sixteen) 0 xs (letters_differ k) h'
