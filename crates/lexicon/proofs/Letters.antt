-- A text of letters with an English ending is a text, if it isn't too long.
use Rattle.std.proofs.Common.{◌≡◌, ℕ, ◌+◌, ◌<◌, ◌≤◌, Bool, true, false, ◌&&◌, ◌||◌, eqb, ltb, List, [], ◌∷◌, ◌++◌, length, take, option_map, Option, Some, None, refl, sym, ap, subst, ◌∙◌, arith, length-append, append-nil}
use Rattle.std.specs.Prelude.{encode_utf8, if◌then◌else◌}
use Rattle.std.specs.Str.{chars, IsUtf8, IsCharBoundary}
use Rattle.std.proofs.Math.Seq.{take-append_seam}
use Rattle.std.proofs.lemmas.Bool.{false≢true}
use Rattle.std.proofs.lemmas.Bool.Decides.{nat_tests, Decides-eqb}
use Rattle.std.proofs.lemmas.Slice.Eq.{ends_is}
use Rattle.std.proofs.lemmas.Str.{IsCharBoundary-at_seam, IsUtf8-take, chars-append}
use Rattle.ucd_derived.specs.Binary.{is_alphabetic}
use Rattle.ucd_derived.specs.AlphabeticRanges.{alphabetic_ranges}
use Rattle.ucd_table.specs.Rows.{in_ranges}
use Rattle.wiki_base.specs.declared.text.BadText.TheVariants.{TooLong, Letter}
use Rattle.lexicon.specs.Suggest.{ends_in, ends_in_consonant, stem, changes_y}
use Rattle.wiki_base.specs.Text.{is_letter, begins_with_letter, is_in_place, misplaced, IsText}

-- these characters begin with a letter, and each of them is one
pub record AreLetters (cs : List ℕ) : Type 0 where
  pub first : begins_with_letter cs ≡ true
  pub placed : (after : Bool) → misplaced after cs ≡ None
  pub ascii : chars cs ≡ cs

pub letters-s : AreLetters (115 ∷ [])
unfolding is_alphabetic in_ranges alphabetic_ranges chars
letters-s = record { first = refl; placed = λ after. refl; ascii = refl }

pub letters-es : AreLetters (101 ∷ 115 ∷ [])
unfolding is_alphabetic in_ranges alphabetic_ranges chars
letters-es = record { first = refl; placed = λ after. refl; ascii = refl }

pub letters-ies : AreLetters (105 ∷ 101 ∷ 115 ∷ [])
unfolding is_alphabetic in_ranges alphabetic_ranges chars
letters-ies = record { first = refl; placed = λ after. refl; ascii = refl }

pub letters-d : AreLetters (100 ∷ [])
unfolding is_alphabetic in_ranges alphabetic_ranges chars
letters-d = record { first = refl; placed = λ after. refl; ascii = refl }

pub letters-ed : AreLetters (101 ∷ 100 ∷ [])
unfolding is_alphabetic in_ranges alphabetic_ranges chars
letters-ed = record { first = refl; placed = λ after. refl; ascii = refl }

pub letters-ied : AreLetters (105 ∷ 101 ∷ 100 ∷ [])
unfolding is_alphabetic in_ranges alphabetic_ranges chars
letters-ied = record { first = refl; placed = λ after. refl; ascii = refl }

-- where no character is misplaced, the first is in place and none of the rest is misplaced
none_after : (after : Bool) (c : ℕ) (cs : List ℕ) → misplaced after (c ∷ cs) ≡ None → (is_in_place after c cs ≡ true) × (misplaced (is_letter c) cs ≡ None)
none_after after c cs none = by_test (is_in_place after c cs) (misplaced (is_letter c) cs) none
  where
    by_test : (b : Bool) (o : Option ℕ) → (if b then option_map (λ n. length (encode_utf8 c) + n) o else Some 0) ≡ None → (b ≡ true) × (o ≡ None)
    by_test true None none = (refl, refl)
    by_test true (Some n) none = cc
    by_test false o none = cc

-- and the other way round
none_from : (after : Bool) (c : ℕ) (cs : List ℕ) → is_in_place after c cs ≡ true → misplaced (is_letter c) cs ≡ None → misplaced after (c ∷ cs) ≡ None
none_from after c cs placed rest = rw (placed, rest) refl

-- a character in front of another ending that begins with a letter is in place too
in_place_before : (after : Bool) (c : ℕ) (cs ending letters : List ℕ) → begins_with_letter letters ≡ true → is_in_place after c (cs ++ ending) ≡ true
    → is_in_place after c (cs ++ letters) ≡ true
in_place_before after c cs ending letters begins placed =
    by_tests (is_letter c) (eqb c 45) after (begins_with_letter (cs ++ ending)) (begins_with_letter (cs ++ letters)) (first cs) placed
  where
    first : (ds : List ℕ) → begins_with_letter (ds ++ ending) ≡ true → begins_with_letter (ds ++ letters) ≡ true
    first [] old = begins
    first (d ∷ ds) old = old

    by_tests : (a b d e f : Bool) → (e ≡ true → f ≡ true) → (a || (b && (d && e))) ≡ true → (a || (b && (d && f))) ≡ true
    by_tests true b d e f new placed = refl
    by_tests false true true e f new placed = new placed
    by_tests false true false e f new placed = placed
    by_tests false false d e f new placed = placed

-- letters in place of the ending of characters that are in place
new_ending : (after : Bool) (cs ending letters : List ℕ) → AreLetters letters → misplaced after (cs ++ ending) ≡ None → misplaced after (cs ++ letters) ≡ None
new_ending after [] ending letters are none = are.placed after
new_ending after (c ∷ cs) ending letters are none =
    let both = none_after after c (cs ++ ending) none in
    none_from after c (cs ++ letters) (in_place_before after c cs ending letters are.first both.0) (new_ending (is_letter c) cs ending letters are both.1)

-- no character of a text is misplaced
placed_in_text : (bytes : List ℕ) → IsText bytes → misplaced false (chars bytes) ≡ None
placed_in_text [] text = cc
placed_in_text (b ∷ bytes) text = by_test (ltb 64 (length (b ∷ bytes))) (misplaced false (chars (b ∷ bytes))) text
  where
    by_test : (long : Bool) (o : Option ℕ) → (if long then Some TooLong else option_map Letter o) ≡ None → o ≡ None
    by_test true o none = cc
    by_test false None none = refl
    by_test false (Some n) none = cc

-- bytes of which no character is misplaced are a text, if there are some and not too many
text_from_placed : (bytes : List ℕ) → 0 < length bytes → length bytes ≤ 64 → misplaced false (chars bytes) ≡ None → IsText bytes
text_from_placed [] some few placed = absurd (omega arith)
text_from_placed (b ∷ bytes) some few placed =
    let short : ltb 64 (length (b ∷ bytes)) ≡ false = grind (arith, nat_tests) in
    rw (short, placed) refl

-- letters are some
some_letters : (letters : List ℕ) → begins_with_letter letters ≡ true → 0 < length letters
some_letters [] begins = absurd (false≢true begins)
some_letters (c ∷ cs) begins = omega arith

-- a text with its ending replaced by letters
pub text-new_ending : (front ending letters text : List ℕ) → IsUtf8 front → chars ending ≡ ending → text ≡ front ++ ending → IsText text → AreLetters letters
    → length (front ++ letters) ≤ 64 → IsText (front ++ letters)
text-new_ending front ending letters text utf8 plain split is are few =
    let old : misplaced false (chars front ++ ending) ≡ None =
    subst (λ cs. misplaced false cs ≡ None) (ap chars split ∙ chars-append front ending utf8 ∙ ap (λ cs. chars front ++ cs) plain)
    (placed_in_text text is) in
    let new : chars (front ++ letters) ≡ chars front ++ letters = chars-append front letters utf8 ∙ ap (λ cs. chars front ++ cs) are.ascii in
    text_from_placed (front ++ letters) (omega (arith, length-append front letters, some_letters letters are.first)) few
    (rw new (new_ending false (chars front) ending letters are old))

-- a text with letters after it
pub text-with_letters : (text letters : List ℕ) → IsUtf8 text → IsText text → AreLetters letters → length (text ++ letters) ≤ 64 → IsText (text ++ letters)
unfolding chars
text-with_letters text letters utf8 is are few = text-new_ending text [] letters text utf8 refl (sym (append-nil text)) is are few

-- the characters of `y` are its byte
chars-y : chars (121 ∷ []) ≡ 121 ∷ []
unfolding chars
chars-y = refl

-- `y` is text
utf8-y : IsUtf8 (121 ∷ [])
unfolding lib.Utf8.encode
utf8-y = (121 ∷ [], (refl, refl))

-- what stands before the `y` of a text that changes it
before_y : (text front : List ℕ) → Some front ≡ (if changes_y text then Some (stem text) else None) → (ends_in text (121 ∷ []) ≡ true) × (front ≡ stem text)
before_y text front is = by_tests (ends_in text (121 ∷ [])) (ends_in_consonant (stem text)) is
  where
    by_tests : (b c : Bool) → Some front ≡ (if b && c then Some (stem text) else None) → (b ≡ true) × (front ≡ stem text)
    by_tests true true is = (refl, cc)
    by_tests true false is = cc
    by_tests false c is = cc

-- a text that changes its `y`, with letters in place of that
pub text-past_y : (text front letters : List ℕ) → IsUtf8 text → IsText text → Some front ≡ (if changes_y text then Some (stem text) else None)
    → AreLetters letters → length (front ++ letters) ≤ 64 → IsText (front ++ letters)
text-past_y text front letters utf8 is before are few =
    let facts = before_y text front before in
    let split : text ≡ stem text ++ 121 ∷ [] = (ends_is Decides-eqb text (121 ∷ []) (ends_in text (121 ∷ [])) refl).0 facts.0 in
    let seam : IsCharBoundary text (length (stem text)) = IsCharBoundary-at_seam text (stem text) (121 ∷ []) split utf8-y in
    let front_utf8 : IsUtf8 (take (length (stem text)) text) = IsUtf8-take text (length (stem text)) utf8 seam in
    let front_is : take (length (stem text)) text ≡ front =
    subst (λ bs. take (length (stem text)) bs ≡ front) (sym split) (take-append_seam (stem text) (121 ∷ []) ∙ sym facts.1) in
    text-new_ending front (121 ∷ []) letters text (subst (λ bs. IsUtf8 bs) front_is front_utf8) chars-y (rw facts.1 split) is are few
