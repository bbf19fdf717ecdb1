-- How a text is cut into tokens, and how tokens are shown as a text.
use Rattle.std.specs.Prelude.{◌≡◌, ℕ, ◌-◌, ◌<◌, ◌≤◌, Bool, true, false, ◌&&◌, ◌||◌, not, IsTrue, ◌==◌, nat_lt, if◌then◌else◌, List, [], ◌∷◌, ◌++◌, length, take, drop, filter, slice_index, ◌⊎◌, All}
use Rattle.std.specs.Char.{to_ascii_lowercase}
use Rattle.std.specs.List.{list_any, list_all, slice_split}
use Rattle.std.specs.Str.{bytes_eq}
use Rattle.wiki_base.specs.declared.tokens.TheConstants.{MOST_TOKENS}
use Rattle.wiki_base.specs.Text.{IsText}
use Rattle.wiki_base.specs.Token.{has_no_space}
use Rattle.lexicon.specs.Terminals.{raised}
use Rattle.derivation_trees.specs.declared.cuts.Cut.{Cut}
use Rattle.derivation_trees.specs.declared.cuts.Cut.TheVariants.{Tokens, TooMany}

-- the text has at least one byte
abbrev pub is_kept : List ℕ → Bool
is_kept piece = nat_lt 0 (length piece)

-- the pieces of a text between its spaces, without the empty ones
abbrev pub pieces : List ℕ → List (List ℕ)
pieces text = filter is_kept (slice_split (λ b. b == 32) text)

-- the byte is . or ?
abbrev pub is_mark : ℕ → Bool
is_mark b = b == 46 || b == 63

-- the piece has more than one byte, and the last of them is . or ?
abbrev pub ends_with_mark : List ℕ → Bool
ends_with_mark piece = nat_lt 1 (length piece) && is_mark (slice_index piece (length piece - 1))

-- a last piece, whose mark at its end is a token of its own
abbrev pub parted : List ℕ → List (List ℕ)
parted piece =
    if ends_with_mark piece then take (length piece - 1) piece ∷ drop (length piece - 1) piece ∷ [] else piece ∷ []

-- the pieces, the last of them parted
abbrev pub parted_last : List (List ℕ) → List (List ℕ)
parted_last [] = []
parted_last (piece ∷ []) = parted piece
parted_last (piece ∷ next ∷ more) = piece ∷ parted_last (next ∷ more)

-- the token is one of the terminals
abbrev pub is_terminal : List (List ℕ) → List ℕ → Bool
is_terminal terminals token = list_any (bytes_eq token) terminals

-- the token with its first letter, if that is one from A to Z, lowered to lower case
abbrev pub lowered : List ℕ → List ℕ
lowered [] = []
lowered (b ∷ bs) = to_ascii_lowercase b ∷ bs

-- the terminal of which the token is the form with its first letter raised, or the token, where there is no such terminal
abbrev pub read_first : List (List ℕ) → List ℕ → List ℕ
read_first terminals token = if is_terminal terminals (lowered token) then lowered token else token

-- the tokens, the first of them read as at the start of a sentence
abbrev pub lowered_first : List (List ℕ) → List (List ℕ) → List (List ℕ)
lowered_first terminals [] = []
lowered_first terminals (token ∷ tokens) = read_first terminals token ∷ tokens

-- the tokens of a text
abbrev pub cut_of : List (List ℕ) → List ℕ → List (List ℕ)
cut_of terminals text = lowered_first terminals (parted_last (pieces text))

-- the token is . or ?
abbrev pub is_mark_token : List ℕ → Bool
is_mark_token [] = false
is_mark_token (b ∷ []) = is_mark b
is_mark_token (b ∷ c ∷ bs) = false

-- what stands before a token that is not the first, with those that follow it: a space, but nothing before a last . or ?
abbrev pub gap : List ℕ → List (List ℕ) → List ℕ
gap token following = if length following == 0 && is_mark_token token then [] else 32 ∷ []

-- the tokens after the first, each behind its gap
abbrev pub continued : List (List ℕ) → List ℕ
continued [] = []
continued (token ∷ tokens) = gap token tokens ++ token ++ continued tokens

-- a first token, which has its first letter raised where it is a terminal
abbrev pub shown_first : List (List ℕ) → List ℕ → List ℕ
shown_first terminals token = if is_terminal terminals token then raised token else token

-- the text that shows the tokens
abbrev pub shown : List (List ℕ) → List (List ℕ) → List ℕ
shown terminals [] = []
shown terminals (token ∷ tokens) = shown_first terminals token ++ continued tokens

-- a token as terminals and forms are: at least one byte, no space, and no . or ? at the end of others
abbrev pub is_whole : List ℕ → Bool
is_whole token = (is_kept token && has_no_space token) && not (ends_with_mark token)

-- the token isn't another terminal with its first letter raised
abbrev pub IsNotRaised : List (List ℕ) → List ℕ → Type 0
IsNotRaised terminals token = (terminal : List ℕ) → is_terminal terminals terminal ≡ true → token ≡ raised terminal → token ≡ terminal

-- the first token, if there is one, isn't another terminal with its first letter raised
abbrev pub FirstIsNotRaised : List (List ℕ) → List (List ℕ) → Type 0
FirstIsNotRaised terminals [] = Unit {0}
FirstIsNotRaised terminals (token ∷ tokens) = IsNotRaised terminals token

-- the tokens are at most 40, each is whole, and the first isn't another terminal with its first letter raised
abbrev pub IsShowable : List (List ℕ) → List (List ℕ) → Type 0
IsShowable terminals tokens = (length tokens ≤ MOST_TOKENS) × IsTrue (list_all is_whole tokens) × FirstIsNotRaised terminals tokens

-- the token is a terminal, or a text, as each form of a word is
abbrev pub IsWord : List (List ℕ) → List ℕ → Type 0
IsWord terminals token = IsTrue (is_terminal terminals token) ⊎ IsText token

-- the tokens are at most 40, each is a terminal or text as forms are, and the first isn't another terminal with its first
-- letter raised
abbrev pub AreWords : List (List ℕ) → List (List ℕ) → Type 0
AreWords terminals tokens = (length tokens ≤ MOST_TOKENS) × All (IsWord terminals) tokens × FirstIsNotRaised terminals tokens

-- the answer for a text with these tokens
abbrev pub IsCut : List (List ℕ) → Cut → Type 0
IsCut tokens (Tokens given) = (given ≡ tokens) × (length tokens ≤ MOST_TOKENS)
IsCut tokens TooMany = MOST_TOKENS < length tokens
