-- A step over one character of a text.
use Rattle.std.proofs.Common.{◌≡◌, ℕ, ◌+◌, Bool, true, false, List, [], ◌∷◌, ◌++◌, length, option_map, Option, None, Some, refl, length-append, ap, sym, ◌∙◌, arith, add-zero, append_assoc, append-nil, ◌⊎◌, inl, inr, ◌<◌}
use Rattle.std.specs.Prelude.{if◌then◌else◌, encode_utf8}
use Rattle.std.specs.Str.{chars, IsUtf8, encode_utf8_all}
use Rattle.std.proofs.lemmas.Str.{chars_past_char, chars-nil}
use Rattle.wiki_base.proofs.OptionLaws.{option_map-none}
use Rattle.wiki_base.specs.Text.{is_letter, is_in_place, misplaced, ends_with_letter, IsInPlace, AllInPlace, IsFirstMisplaced}

-- two sums of a place are one
pub option_map-sum : (p k : ℕ) (place : Option ℕ) → option_map (λ n. p + n) (option_map (λ n. k + n) place) ≡ option_map (λ n. p + k + n) place
option_map-sum p k None = refl
option_map-sum p k (Some n) = ap Some (omega arith)

-- a character that is out of place is the first
pub misplaced-here : (after : Bool) (bs rest : List ℕ) (c p : ℕ) → IsUtf8 bs → bs ≡ encode_utf8 c ++ rest → is_in_place after c (chars rest) ≡ false →
    option_map (λ n. p + n) (misplaced after (chars bs)) ≡ Some p
misplaced-here after bs rest c p utf8 step out =
    ap (λ cs. option_map (λ n. p + n) (misplaced after cs)) (chars_past_char bs rest c utf8 step)
    ∙ ap (λ b. option_map (λ n. p + n) (if b then option_map (λ n. length (encode_utf8 c) + n) (misplaced (is_letter c) (chars rest)) else Some 0)) out
    ∙ ap Some (add-zero p)

-- past a character that is in place, the first stands in the rest
pub misplaced-past : (after : Bool) (bs rest : List ℕ) (c p k : ℕ) → IsUtf8 bs → bs ≡ encode_utf8 c ++ rest → is_in_place after c (chars rest) ≡ true
    → k ≡ length (encode_utf8 c) →
    option_map (λ n. p + n) (misplaced after (chars bs)) ≡ option_map (λ n. p + k + n) (misplaced (is_letter c) (chars rest))
misplaced-past after bs rest c p k utf8 step fits long =
    ap (λ cs. option_map (λ n. p + n) (misplaced after cs)) (chars_past_char bs rest c utf8 step)
    ∙ ap (λ b. option_map (λ n. p + n) (if b then option_map (λ n. length (encode_utf8 c) + n) (misplaced (is_letter c) (chars rest)) else Some 0)) fits
    ∙ option_map-sum p (length (encode_utf8 c)) (misplaced (is_letter c) (chars rest))
    ∙ ap (λ m. option_map (λ n. p + m + n) (misplaced (is_letter c) (chars rest))) (sym long)

-- at the end there is none
pub misplaced-end : (after : Bool) (bs : List ℕ) (p : ℕ) → length bs ≡ 0 → option_map (λ n. p + n) (misplaced after (chars bs)) ≡ None
misplaced-end after [] p empty = ap (λ cs. option_map (λ n. p + n) (misplaced after cs)) chars-nil
misplaced-end after (b ∷ bs) p empty = absurd (omega arith)

-- one more character at the end decides whether the last is a letter
pub ends_with_letter-last : (before : List ℕ) (c : ℕ) → ends_with_letter (before ++ c ∷ []) ≡ is_letter c
ends_with_letter-last [] c = refl
ends_with_letter-last (d ∷ []) c = refl
ends_with_letter-last (d ∷ e ∷ ds) c = ends_with_letter-last (e ∷ ds) c

option_map-some : (f : ℕ → ℕ) (o : Option ℕ) (m : ℕ) → option_map f o ≡ Some m → (n : ℕ) × (o ≡ Some n) × (m ≡ f n)
option_map-some f None m some = absurd (cc)
option_map-some f (Some n) m some = (n, refl, cc)

-- where no character is misplaced, the first is in place and none of the rest is misplaced
none-step : (after : Bool) (d : ℕ) (ds : List ℕ) → misplaced after (d ∷ ds) ≡ None →
    (is_in_place after d ds ≡ true) × (misplaced (is_letter d) ds ≡ None)
none-step after d ds =
    elim (is_in_place after d ds) as (λ b. (if b then option_map (λ n. length (encode_utf8 d) + n) (misplaced (is_letter d) ds) else Some 0) ≡ None
    → (b ≡ true) × (misplaced (is_letter d) ds ≡ None)) [
      | true ↦ λ none. (refl, option_map-none (λ n. length (encode_utf8 d) + n) (misplaced (is_letter d) ds) none)
      | false ↦ λ none. absurd (cc)
    ]

-- where some character is misplaced, it is the first, or it stands in the rest
some-step : (after : Bool) (d : ℕ) (ds : List ℕ) (p : ℕ) → misplaced after (d ∷ ds) ≡ Some p →
    ((is_in_place after d ds ≡ false) × (p ≡ 0))
    ⊎ ((is_in_place after d ds ≡ true) × ((n : ℕ) × (misplaced (is_letter d) ds ≡ Some n) × (p ≡ length (encode_utf8 d) + n)))
some-step after d ds p =
    elim (is_in_place after d ds) as (λ b. (if b then option_map (λ n. length (encode_utf8 d) + n) (misplaced (is_letter d) ds) else Some 0) ≡ Some p →
    ((b ≡ false) × (p ≡ 0)) ⊎ ((b ≡ true) × ((n : ℕ) × (misplaced (is_letter d) ds ≡ Some n) × (p ≡ length (encode_utf8 d) + n)))) [
      | true ↦ λ some. inr (refl, option_map-some (λ n. length (encode_utf8 d) + n) (misplaced (is_letter d) ds) p some)
      | false ↦ λ some. inl (refl, cc)
    ]

-- characters of which none is misplaced behind others are in place there
pub misplaced-none : (front cs : List ℕ) → misplaced (ends_with_letter front) cs ≡ None →
    (before : List ℕ) (c : ℕ) (after : List ℕ) → cs ≡ before ++ c ∷ after → IsInPlace (front ++ before) c after
misplaced-none front [] none [] c after split = absurd (cc)
misplaced-none front [] none (b ∷ before) c after split = absurd (cc)
misplaced-none front (d ∷ ds) none [] c after split =
    let here = (none-step (ends_with_letter front) d ds none).0 in
    let same_c : d ≡ c = cc in
    let same_rest : ds ≡ after = cc in
    rw (append-nil front, ← same_c, ← same_rest) here
misplaced-none front (d ∷ ds) none (b ∷ before) c after split =
    let rest = (none-step (ends_with_letter front) d ds none).1 in
    let same_c : b ≡ d = cc in
    let same_rest : ds ≡ before ++ c ∷ after = cc in
    rw (append_assoc front (b ∷ []) before) at
    (misplaced-none (front ++ b ∷ []) ds (ap (λ l. misplaced l ds) (ends_with_letter-last front b ∙ ap is_letter same_c) ∙ rest) before c after same_rest)

-- the first misplaced character behind others
record FirstBehind (front cs : List ℕ) (p : ℕ) : Type 0 where
  before : List ℕ
  c : ℕ
  after : List ℕ
  split : cs ≡ before ++ c ∷ after
  at : p ≡ length (encode_utf8_all before)
  here : ¬ IsInPlace (front ++ before) c after
  first : (f : List ℕ) (d : ℕ) (b : List ℕ) → cs ≡ f ++ d ∷ b → length f < length before → IsInPlace (front ++ f) d b

here-first : (front : List ℕ) (d : ℕ) (ds : List ℕ) (p : ℕ) → is_in_place (ends_with_letter front) d ds ≡ false → p ≡ 0 → FirstBehind front (d ∷ ds) p
here-first front d ds p out zero = record {
  before = [];
  c = d;
  after = ds;
  split = refl;
  at = zero;
  here = rw (append-nil front) (λ (h : IsInPlace front d ds). let same : true ≡ false = sym h ∙ out in cc);
  first = λ f e b split below. absurd (omega arith);
}

later-first : (front : List ℕ) (d : ℕ) (ds : List ℕ) (p n : ℕ) → is_in_place (ends_with_letter front) d ds ≡ true → p ≡ length (encode_utf8 d) + n →
    FirstBehind (front ++ d ∷ []) ds n → FirstBehind front (d ∷ ds) p
later-first front d ds p n fits sum rest = record {
  before = d ∷ rest.before;
  c = rest.c;
  after = rest.after;
  split = ap (λ xs. d ∷ xs) rest.split;
  at = sum ∙ ap (λ m. length (encode_utf8 d) + m) rest.at ∙ sym (length-append (encode_utf8 d) (encode_utf8_all rest.before));
  here = rw (append_assoc front (d ∷ []) rest.before) at rest.here;
  first = earlier;
}
  where
    earlier : (f : List ℕ) (e : ℕ) (b : List ℕ) → d ∷ ds ≡ f ++ e ∷ b → length f < length (d ∷ rest.before) → IsInPlace (front ++ f) e b
    earlier [] e b split below =
        let same_c : d ≡ e = cc in
        let same_rest : ds ≡ b = cc in
        rw (append-nil front, ← same_c, ← same_rest) fits
    earlier (x ∷ f) e b split below =
        let same_c : d ≡ x = cc in
        let same_rest : ds ≡ f ++ e ∷ b = cc in
        rw (← same_c) (rw (append_assoc front (d ∷ []) f) at (rest.first f e b same_rest (omega arith)))

misplaced-some : (front cs : List ℕ) (p : ℕ) → misplaced (ends_with_letter front) cs ≡ Some p → FirstBehind front cs p
misplaced-some front [] p some = absurd (cc)
misplaced-some front (d ∷ ds) p some =
    elim (some-step (ends_with_letter front) d ds p some) [
      | inl h ↦ here-first front d ds p h.0 h.1
      | inr h ↦ later-first front d ds p h.1.0 h.0 h.1.2
          (misplaced-some (front ++ d ∷ []) ds h.1.0 (ap (λ b. misplaced b ds) (ends_with_letter-last front d) ∙ h.1.1))
    ]

-- the characters of a text with no fault are in place
pub all-in_place : (cs : List ℕ) → misplaced false cs ≡ None → AllInPlace cs
all-in_place cs none = misplaced-none [] cs none

-- the place that is told is that of the first misplaced character
pub first-misplaced : (cs : List ℕ) (p : ℕ) → misplaced false cs ≡ Some p → IsFirstMisplaced cs p
first-misplaced cs p some =
    let f = misplaced-some [] cs p some in
    record { before = f.before; c = f.c; after = f.after; split = f.split; at = f.at; here = f.here; first = f.first }
