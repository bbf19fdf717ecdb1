-- The texts that words have: letters, and hyphens between letters.
use Rattle.std.specs.Prelude.{◌≡◌, ℕ, ◌+◌, Bool, true, false, ◌&&◌, ◌||◌, ◌==◌, nat_lt, if◌then◌else◌, ◌<◌, List, [], ◌∷◌, ◌++◌, length, option_map, Option, Some, None, encode_utf8}
use Rattle.std.specs.Str.{chars, encode_utf8_all}
use Rattle.unicode.specs.Binary.{is_alphabetic}
use Rattle.wiki_base.specs.declared.text.TheConstants.{LONGEST_TEXT}
use Rattle.wiki_base.specs.declared.text.BadText.{BadText}
use Rattle.wiki_base.specs.declared.text.BadText.TheVariants.{Empty, TooLong, Letter}

-- a letter is a character with the property Alphabetic of Unicode
abbrev pub is_letter : ℕ → Bool
is_letter c = is_alphabetic c

-- the first of these characters is a letter
abbrev pub begins_with_letter : List ℕ → Bool
begins_with_letter [] = false
begins_with_letter (c ∷ cs) = is_letter c

-- the character c between what stands before it and after it is a letter, or a hyphen between two letters
abbrev pub is_in_place : Bool → ℕ → List ℕ → Bool
is_in_place after_letter c rest = is_letter c || (c == 45 && (after_letter && begins_with_letter rest))

-- The number of bytes in front of the first character that is neither a letter nor a hyphen between two letters.
-- after_letter says whether a letter stands before these characters.
abbrev pub misplaced : Bool → List ℕ → Option ℕ
misplaced after_letter [] = None
misplaced after_letter (c ∷ cs) =
    if is_in_place after_letter c cs then option_map (λ n. length (encode_utf8 c) + n) (misplaced (is_letter c) cs) else Some 0

-- what is wrong with these bytes as a text: there are none, too many, or the first misplaced character is at a byte
abbrev pub fault_of : List ℕ → Option BadText
fault_of [] = Some Empty
fault_of (b ∷ bs) =
    if nat_lt LONGEST_TEXT (length (b ∷ bs)) then Some TooLong else option_map Letter (misplaced false (chars (b ∷ bs)))

-- the bytes are a text
abbrev pub IsText : List ℕ → Type 0
IsText bytes = fault_of bytes ≡ None

-- the last of these characters is a letter
abbrev pub ends_with_letter : List ℕ → Bool
ends_with_letter [] = false
ends_with_letter (c ∷ []) = is_letter c
ends_with_letter (c ∷ d ∷ cs) = ends_with_letter (d ∷ cs)

-- the character c between these characters before it and after it is a letter, or a hyphen between two letters
abbrev pub IsInPlace : List ℕ → ℕ → List ℕ → Type 0
IsInPlace before c after = is_in_place (ends_with_letter before) c after ≡ true

-- each of these characters is in place
abbrev pub AllInPlace : List ℕ → Type 0
AllInPlace cs = (before : List ℕ) (c : ℕ) (after : List ℕ) → cs ≡ before ++ c ∷ after → IsInPlace before c after

-- the first of these characters that is out of place begins after this number of bytes
pub record IsFirstMisplaced (cs : List ℕ) (place : ℕ) : Type 0 where
  pub before : List ℕ
  pub c : ℕ
  pub after : List ℕ
  pub split : cs ≡ before ++ c ∷ after
  pub at : place ≡ length (encode_utf8_all before)
  pub here : ¬ IsInPlace before c after
  pub first : (front : List ℕ) (d : ℕ) (back : List ℕ) → cs ≡ front ++ d ∷ back → length front < length before → IsInPlace front d back
