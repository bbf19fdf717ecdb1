-- The tokens of a file in the functional-style syntax of OWL 2.
-- After OWL 2, Structural Specification, section 2.1. A word is what stands between white space, signs and comments.
use Rattle.std.specs.Prelude.{◌≡◌, ℕ, ◌+◌, ◌<◌, ◌≤◌, Bool, true, false, not, ◌&&◌, ◌||◌, ◌==◌, if◌then◌else◌, List, [], ◌∷◌, length, take, drop, Option, Some, None}
use Rattle.std.specs.Str.Lossy.{utf8_valid_len}
use Rattle.owl_tokens.specs.declared.tokens.TokenKind.{TokenKind}
use Rattle.owl_tokens.specs.declared.tokens.TokenKind.TheVariants.{OpenParen, CloseParen, Equals, Iri, Quoted, Word}

-- a token: what is between < and >, between quotes, or the word, the byte at which it begins, and the byte after it
pub record Token : Type 0 where
  pub kind : TokenKind
  pub text : List ℕ
  pub at : ℕ
  pub end : ℕ

-- what stands at a place: a token, the end, or a byte that begins no token
pub data Next : Type 0 where
  Found : Token → Next
  Ends : ℕ → Next
  Broken : ℕ → Next

-- space, tab, carriage return and newline
abbrev pub is_space : ℕ → Bool
is_space b = (b == 32) || ((b == 9) || ((b == 13) || (b == 10)))

-- neither white space nor ( ) = < > " #
abbrev pub is_word_byte : ℕ → Bool
is_word_byte b = not (is_space b || ((b == 40) || ((b == 41) || ((b == 61) || ((b == 60) || ((b == 62) || ((b == 34) || (b == 35))))))))

-- neither white space nor >
abbrev pub is_iri_byte : ℕ → Bool
is_iri_byte b = not (is_space b || (b == 62))

-- the place behind the white space and the comments that stand at a place. A comment goes from # to the line's end.
abbrev pub gap_end : ℕ → Bool → List ℕ → ℕ
gap_end at in_comment [] = at
gap_end at true (b ∷ bs) = gap_end (at + 1) (not (b == 10)) bs
gap_end at false (b ∷ bs) =
    if is_space b then gap_end (at + 1) false bs
    else (if b == 35 then gap_end (at + 1) true bs else at)

-- how many bytes of the kind stand in front
abbrev pub run : (ℕ → Bool) → List ℕ → ℕ
run is [] = 0
run is (b ∷ bs) = if is b then 1 + run is bs else 0

-- how many bytes stand before the quote that closes a string: \" and \\ stand in a string, and no other \
abbrev pub closing_quote : ℕ → Bool → List ℕ → Option ℕ
closing_quote n after_backslash [] = None
closing_quote n true (b ∷ bs) = if (b == 34) || (b == 92) then closing_quote (n + 1) false bs else None
closing_quote n false (b ∷ bs) = if b == 34 then Some n else closing_quote (n + 1) (b == 92) bs

-- a token of one byte
abbrev pub sign : TokenKind → ℕ → Next
sign kind at = Found (record { kind = kind; text = []; at = at; end = at + 1 })

-- a token of n bytes between two others
abbrev pub enclosed : TokenKind → ℕ → List ℕ → ℕ → Next
enclosed kind at bs n = Found (record { kind = kind; text = take n bs; at = at; end = at + n + 2 })

abbrev pub begins_with_greater : List ℕ → Bool
begins_with_greater [] = false
begins_with_greater (b ∷ bs) = b == 62

-- behind <, where it stands at a place
abbrev pub iri_at : ℕ → List ℕ → Next
iri_at at bs = if begins_with_greater (drop (run is_iri_byte bs) bs) then enclosed Iri at bs (run is_iri_byte bs) else Broken at

abbrev pub quoted_by : Option ℕ → ℕ → List ℕ → Next
quoted_by None at bs = Broken at
quoted_by (Some n) at bs = enclosed Quoted at bs n

-- behind a quote
abbrev pub quoted_at : ℕ → List ℕ → Next
quoted_at at bs = quoted_by (closing_quote 0 false bs) at bs

-- the longest word
abbrev pub word_at : ℕ → List ℕ → Next
word_at at bs = Found (record { kind = Word; text = take (run is_word_byte bs) bs; at = at; end = at + run is_word_byte bs })

-- the token of which these are the first byte and the others
abbrev pub token_of : ℕ → ℕ → List ℕ → Next
token_of at b bs =
    if b == 40 then sign OpenParen at
    else (if b == 41 then sign CloseParen at
    else (if b == 61 then sign Equals at
    else (if b == 60 then iri_at at bs
    else (if b == 34 then quoted_at at bs
    else (if is_word_byte b then word_at at (b ∷ bs) else Broken at)))))

-- what stands at a place, of the bytes from there on
abbrev pub token_at : ℕ → List ℕ → Next
token_at at [] = Ends at
token_at at (b ∷ bs) = token_of at b bs

-- what comes next from a place of a text
abbrev pub next : List ℕ → ℕ → Next
next text from = token_at (gap_end from false (drop from text)) (drop (gap_end from false (drop from text)) text)

-- a token begins at a place or behind it, and ends within a length; so does the place of an end or of a fault
abbrev pub IsWithin : ℕ → ℕ → Next → Type 0
IsWithin from most (Found t) = (from ≤ t.at) × (t.at < t.end) × (t.end ≤ most)
IsWithin from most (Ends at) = (from ≤ at) × (at ≤ most)
IsWithin from most (Broken at) = (from ≤ at) × (at ≤ most)

-- a cut ends with the text, or at a byte that begins no token
pub data Ending : Type 0 where
  Whole : ℕ → Ending
  Cut_off : ℕ → Ending

-- text from a place on is these tokens, with white space and comments around them, up to this ending
abbrev pub Cuts : List ℕ → ℕ → List Token → Ending → Type 0
Cuts text from [] (Whole at) = next text from ≡ Ends at
Cuts text from [] (Cut_off at) = next text from ≡ Broken at
Cuts text from (t ∷ ts) ending = (next text from ≡ Found t) × Cuts text t.end ts ending

-- the longest front that is UTF-8
abbrev pub utf8_front : List ℕ → List ℕ
utf8_front text = take (utf8_valid_len text) text

-- where other bytes follow, they begin no token
abbrev pub ending_of : Bool → Ending → Ending
ending_of true ending = ending
ending_of false (Whole at) = Cut_off at
ending_of false (Cut_off at) = Cut_off at

-- a byte order mark in front
abbrev pub has_mark : List ℕ → Bool
has_mark (a ∷ b ∷ c ∷ bs) = (a == 239) && ((b == 187) && (c == 191))
has_mark _ = false

abbrev pub FileCuts : Bool → List ℕ → List Token → Ending → Type 0
FileCuts true text ts ending = (ts ≡ []) × (ending ≡ Cut_off 0)
FileCuts false text ts ending = (e : Ending) × Cuts (utf8_front text) 0 ts e × (ending ≡ ending_of (utf8_valid_len text == length text) e)

-- The text of a file is cut into these tokens, up to this ending. A byte that is no UTF-8 ends a word, and begins no token;
-- nor does a byte order mark.
abbrev pub IsCut : List ℕ → List Token → Ending → Type 0
IsCut text ts ending = FileCuts (has_mark text) text ts ending
