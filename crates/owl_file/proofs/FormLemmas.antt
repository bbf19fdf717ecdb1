-- The forms of words have only bytes that may stand in a word of a file.
use Rattle.std.proofs.Common.{◌≡◌, ℕ, suc, ◌+◌, ◌<◌, ◌≤◌, List, [], ◌∷◌, ◌++◌, Bool, true, false, not, eqb, ◌&&◌, ◌||◌, length, get_or, Option, None, Some, option_map, refl, sym, ap, subst, ◌∙◌, arith, nat_lt, length-append, ◌⊎◌, inl, inr}
use Rattle.std.specs.Prelude.{if◌then◌else◌, ◌==◌, encode_utf8}
use Rattle.std.specs.List.{list_all}
use Rattle.std.specs.Str.{chars, IsUtf8, NonePass, NoCharPasses}
use Rattle.std.proofs.Math.Seq.{take-append_seam, drop-append-add, get_or-append_seam}
use Rattle.std.proofs.lemmas.Bool.{eqb-true, and_from, cases_lt}
use Rattle.std.proofs.lemmas.Bool.Decides.{nat_tests}
use Rattle.std.proofs.lemmas.Str.{encodes-chars, NoCharPasses-byte, IsUtf8-drop, IsUtf8-take, IsCharBoundary-before_ascii, IsCharBoundary-after_ascii}
use Rattle.ucd_derived.specs.Binary.{is_alphabetic}
use Rattle.ucd_derived.specs.AlphabeticRanges.{alphabetic_ranges}
use Rattle.ucd_table.specs.Rows.{in_ranges}
use Rattle.wiki_base.specs.declared.text.BadText.TheVariants.{TooLong, Letter}
use Rattle.wiki_base.specs.Text.{is_letter, begins_with_letter, is_in_place, misplaced, IsText}
use Rattle.wiki_base.proofs.OptionLaws.{option_map-none}
use Rattle.owl_tokens.specs.Tokens.{is_word_byte}

-- ---- letters and hyphens

-- what is no letter
pub record NoLetters : Type 0 where
  pub tab : is_letter 9 ≡ false
  pub newline : is_letter 10 ≡ false
  pub return : is_letter 13 ≡ false
  pub space : is_letter 32 ≡ false
  pub quote : is_letter 34 ≡ false
  pub hash : is_letter 35 ≡ false
  pub opening : is_letter 40 ≡ false
  pub closing : is_letter 41 ≡ false
  pub less : is_letter 60 ≡ false
  pub equals : is_letter 61 ≡ false
  pub greater : is_letter 62 ≡ false

no_letters : NoLetters
unfolding is_alphabetic in_ranges alphabetic_ranges
no_letters = record {
  tab = refl;
  newline = refl;
  return = refl;
  space = refl;
  quote = refl;
  hash = refl;
  opening = refl;
  closing = refl;
  less = refl;
  equals = refl;
  greater = refl;
}

module _ (after : Bool) (c : ℕ) (rest : List ℕ) (h : is_in_place after c rest ≡ true) where
  -- a character in place isn't one that is neither a letter nor a hyphen
  is_none : (n : ℕ) → is_letter n ≡ false → (n == 45) ≡ false → eqb c n ≡ false
  is_none n letter hyphen = by (eqb c n) refl
    where
      by : (b : Bool) → eqb c n ≡ b → b ≡ false
      by false e = refl
      by true e =
          let out : is_in_place after n rest ≡ false = λ i. letter i || (hyphen i && (after && begins_with_letter rest)) in
          let at : true ≡ false = sym h ∙ ap (λ x. is_in_place after x rest) (eqb-true c n e) ∙ out in
          cc

  placed_byte : is_word_byte c ≡ true
  placed_byte = λ i.
      not ((is_none 32 no_letters.space refl i
      || (is_none 9 no_letters.tab refl i || (is_none 13 no_letters.return refl i || is_none 10 no_letters.newline refl i)))
      || (is_none 40 no_letters.opening refl i || (is_none 41 no_letters.closing refl i || (is_none 61 no_letters.equals refl i
      || (is_none 60 no_letters.less refl i || (is_none 62 no_letters.greater refl i
      || (is_none 34 no_letters.quote refl i || is_none 35 no_letters.hash refl i)))))))

-- no character is misplaced: the first is in place, and none behind it is misplaced
placed_step : (after : Bool) (d : ℕ) (ds : List ℕ) → misplaced after (d ∷ ds) ≡ None → (is_in_place after d ds ≡ true) × (misplaced (is_letter d) ds ≡ None)
placed_step after d ds h = by (is_in_place after d ds) h
  where
    by : (b : Bool) → (if b then option_map (λ n. length (encode_utf8 d) + n) (misplaced (is_letter d) ds) else Some 0) ≡ None
        → (b ≡ true) × (misplaced (is_letter d) ds ≡ None)
    by true h = (refl, option_map-none (λ n. length (encode_utf8 d) + n) (misplaced (is_letter d) ds) h)
    by false h = cc

abbrev is_odd : ℕ → Bool
is_odd b = not (is_word_byte b)

none_odd : (after : Bool) (cs : List ℕ) → misplaced after cs ≡ None → NonePass is_odd cs
none_odd after [] h = tt
none_odd after (d ∷ ds) h =
    let step = placed_step after d ds h in
    (ap (λ b. not b) (placed_byte after d ds step.0), none_odd (is_letter d) ds step.1)

-- ---- bytes

-- a byte of a longer character
high_byte : (b : ℕ) → 128 ≤ b → is_word_byte b ≡ true
high_byte b h = λ i.
    not ((no 32 (omega arith) i || (no 9 (omega arith) i || (no 13 (omega arith) i || no 10 (omega arith) i)))
    || (no 40 (omega arith) i || (no 41 (omega arith) i || (no 61 (omega arith) i || (no 60 (omega arith) i || (no 62 (omega arith) i
    || (no 34 (omega arith) i || no 35 (omega arith) i)))))))
  where
    no : (n : ℕ) → n < b → eqb b n ≡ false
    no n lt = grind (arith, nat_tests)

low_byte : (b : ℕ) → is_odd b ≡ false → is_word_byte b ≡ true
low_byte b h = by (is_word_byte b) h
  where
    by : (c : Bool) → not c ≡ false → c ≡ true
    by true h = refl
    by false h = cc

each_byte : (bs : List ℕ) → ((i : ℕ) → i < length bs → is_word_byte (get_or bs i 0) ≡ true) → list_all is_word_byte bs ≡ true
each_byte [] h = refl
each_byte (b ∷ bs) h = and_from (is_word_byte b) (list_all is_word_byte bs) (h 0 (omega arith)) (each_byte bs (λ i lt. h (suc i) (omega arith)))

no_fault : (b : Bool) (o : Option ℕ) → (if b then Some TooLong else option_map Letter o) ≡ None → o ≡ None
no_fault true o h = cc
no_fault false None h = refl
no_fault false (Some n) h = cc

-- a text
pub text_bytes : (t : List ℕ) → IsUtf8 t → IsText t → list_all is_word_byte t ≡ true
text_bytes [] utf8 h = refl
text_bytes (b ∷ bs) utf8 h =
    let placed : misplaced false (chars (b ∷ bs)) ≡ None = no_fault (nat_lt 64 (length (b ∷ bs))) (misplaced false (chars (b ∷ bs))) h in
    let none : NoCharPasses is_odd (b ∷ bs) = (chars (b ∷ bs), encodes-chars (b ∷ bs) utf8, none_odd false (chars (b ∷ bs)) placed) in
    each_byte (b ∷ bs) (λ i lt. by_size i lt none (cases_lt (get_or (b ∷ bs) i 0) 128))
  where
    by_size : (i : ℕ) → i < length (b ∷ bs) → NoCharPasses is_odd (b ∷ bs) → (get_or (b ∷ bs) i 0 < 128) ⊎ (128 ≤ get_or (b ∷ bs) i 0)
        → is_word_byte (get_or (b ∷ bs) i 0) ≡ true
    by_size i lt none (inl low) = low_byte (get_or (b ∷ bs) i 0) (NoCharPasses-byte is_odd (b ∷ bs) i none lt low)
    by_size i lt none (inr high) = high_byte (get_or (b ∷ bs) i 0) high

-- ---- a part of a text

behind_ascii : (front rest : List ℕ) (a : ℕ) → a < 128 → IsUtf8 (front ++ a ∷ rest) → IsUtf8 rest
behind_ascii front rest a low utf8 =
    let bs : List ℕ = front ++ a ∷ rest in
    let n : ℕ = length front in
    let at : get_or bs n 0 < 128 = omega (arith, get_or-append_seam front a rest 0) in
    let within : n < length bs = omega (arith, length-append front (a ∷ rest)) in
    subst IsUtf8 (drop-append-add front (a ∷ rest) 1) (IsUtf8-drop bs (n + 1) utf8 (IsCharBoundary-after_ascii bs n utf8 within at))

before_ascii : (front rest : List ℕ) (b : ℕ) → b < 128 → IsUtf8 (front ++ b ∷ rest) → IsUtf8 front
before_ascii front rest b low utf8 =
    let bs : List ℕ = front ++ b ∷ rest in
    let n : ℕ = length front in
    let at : get_or bs n 0 < 128 = omega (arith, get_or-append_seam front b rest 0) in
    let within : n < length bs = omega (arith, length-append front (b ∷ rest)) in
    subst IsUtf8 (take-append_seam front (b ∷ rest)) (IsUtf8-take bs n utf8 (IsCharBoundary-before_ascii bs n within at))

-- what stands between two ASCII bytes of a text is a text
pub inner_utf8 : (front part rest : List ℕ) (a b : ℕ) → a < 128 → b < 128 → IsUtf8 (front ++ a ∷ (part ++ b ∷ rest)) → IsUtf8 part
inner_utf8 front part rest a b low_a low_b utf8 = before_ascii part rest b low_b (behind_ascii front (part ++ b ∷ rest) a low_a utf8)
