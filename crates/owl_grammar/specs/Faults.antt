-- The fault of a text: that of the first token, from left to right, which has one. A token without a place is one behind which no file goes on.
-- After the profile of docs/OWL.md.
use Rattle.std.specs.Prelude.{◌≡◌, ◌≢◌, ◌⊎◌, ℕ, ◌+◌, ◌-◌, Bool, true, false, not, ◌&&◌, ◌||◌, nat_le, if◌then◌else◌, List, [], ◌∷◌, ◌++◌, map, take, drop, Option, Some, None, codes}
use Rattle.std.specs.List.{flat_map}
use Rattle.owl_tokens.specs.declared.tokens.TokenKind.{TokenKind}
use Rattle.owl_tokens.specs.declared.tokens.TokenKind.TheVariants as token
use Rattle.owl_tokens.specs.Tokens.{Token, Ending, Whole, Cut_off, IsCut}
use Rattle.owl_reader.specs.declared.faults.Trouble.{Trouble}
use Rattle.owl_reader.specs.declared.faults.Trouble.TheVariants.{Syntax, Unsupported, Prefix, TooDeep}
use Rattle.owl_reader.specs.declared.faults.OwlFault.{OwlFault}
use Rattle.owl_reader.specs.declared.faults.OwlFault.TheVariants as fault
use Rattle.owl_reader.specs.declared.kinds.Construct.{Construct}
use Rattle.owl_reader.specs.Grammar.{same_bytes, keyword, item_constructs, class_constructs, property_constructs, declared_constructs}
use Rattle.owl_reader.specs.Names.{colon_at, Declared, iri_of, first_prefixes}
use Rattle.owl_grammar.specs.Files.{Piece, piece_of, word, File, Line, IsFile, spelled_file, spelled_line, is_open, is_close, is_shallow, is_in_profile_with, IsOneOf, declared_by}

-- a file begins with these tokens
abbrev pub CanGoOn : List Piece → Type 0
CanGoOn ps = (f : File) × (rest : List Piece) × IsFile f × (ps ++ rest ≡ spelled_file f)

-- how many parentheses are open behind these tokens, where so many are open before them
abbrev pub open_behind : ℕ → List Piece → ℕ
open_behind count [] = count
open_behind count (p ∷ ps) =
    if is_open p.kind then open_behind (count + 1) ps else (if is_close p.kind then open_behind (count - 1) ps else open_behind count ps)

-- these are the whole lines of prefixes in front
pub record LinesInFront (ps : List Piece) (lines : List Line) : Type 0 where
  pub more : List Piece
  pub spelled : ps ≡ flat_map spelled_line lines ++ more
  pub all : (l : Line) (rest : List Piece) → more ≢ spelled_line l ++ rest

-- a name that begins with _:, or that is the top or the bottom property's
abbrev pub is_left_out : Option (List ℕ) → List ℕ → List ℕ → Bool
is_left_out meaning prefix local = same_bytes prefix (codes "_") || not (is_in_profile_with meaning local true)

-- the fault of a name whose prefix isn't declared: but a line may declare it, with nothing behind its colon
abbrev pub UndeclaredFault : List Piece → List ℕ → Trouble → Type 0
UndeclaredFault ps prefix Prefix = CanGoOn (ps ++ word (prefix ++ 58 ∷ []) ∷ []) → ⊥
UndeclaredFault ps prefix Syntax = CanGoOn (ps ++ word (prefix ++ 58 ∷ []) ∷ [])
UndeclaredFault ps prefix _ = ⊥

abbrev pub PrefixFault : Option (List ℕ) → List Piece → List ℕ → Trouble → Type 0
PrefixFault None ps prefix x = UndeclaredFault ps prefix x
PrefixFault (Some iri) ps prefix x = x ≡ Syntax

abbrev pub LeftOutFault : Bool → Option (List ℕ) → List Piece → List ℕ → Trouble → Type 0
LeftOutFault true meaning ps prefix x = x ≡ Unsupported
LeftOutFault false meaning ps prefix x = PrefixFault meaning ps prefix x

-- the fault of a name, by what its prefix means
abbrev pub NameFault : Option (List ℕ) → List Piece → List ℕ → List ℕ → Trouble → Type 0
NameFault meaning ps prefix local x = LeftOutFault (is_left_out meaning prefix local) meaning ps prefix x

-- what may begin an item, a class, a property, or what is declared
abbrev pub all_constructs : List Construct
all_constructs = item_constructs ++ class_constructs ++ property_constructs ++ declared_constructs

pub record MayBegin (ps : List Piece) : Type 0 where
  pub construct : Construct
  pub one : IsOneOf all_constructs construct
  pub fine : CanGoOn (ps ++ word (keyword construct) ∷ [])

-- the fault of another keyword
abbrev pub KeywordFault : List Piece → Trouble → Type 0
KeywordFault ps Unsupported = MayBegin ps
KeywordFault ps Syntax = MayBegin ps → ⊥
KeywordFault ps _ = ⊥

abbrev pub WordFault : Option ℕ → Declared → List Piece → List ℕ → Trouble → Type 0
WordFault None declared ps text x = KeywordFault ps x
WordFault (Some n) declared ps text x = NameFault (iri_of declared (take n text)) ps (take n text) (drop (n + 1) text) x

-- the fault of a token without a place behind these
abbrev pub KindFault : TokenKind → Declared → List Piece → List ℕ → Trouble → Type 0
KindFault token.Word declared ps text x = WordFault (colon_at 0 text) declared ps text x
KindFault _ declared ps text x = x ≡ Syntax

pub record NoPlace (ps : List Piece) (p : Piece) (x : Trouble) : Type 0 where
  pub lines : List Line
  pub in_front : LinesInFront ps lines
  pub no_place : CanGoOn (ps ++ p ∷ []) → ⊥
  pub kind : KindFault p.kind (declared_by first_prefixes lines) ps p.text x

abbrev pub DepthFault : Bool → List Piece → Piece → Trouble → Type 0
DepthFault true ps p x = x ≡ TooDeep
DepthFault false ps p x = NoPlace ps p x

-- the fault of a token behind these: a parenthesis is one too many, or the token has no place
abbrev pub HasFault : List Piece → Piece → Trouble → Type 0
HasFault ps p x = DepthFault (is_open p.kind && nat_le 200 (open_behind 0 ps)) ps p x

-- these tokens have no fault
pub record AreFine (ps : List Piece) : Type 0 where
  pub fine : CanGoOn ps
  pub shallow : is_shallow 200 0 ps ≡ true

-- a token at this byte has the fault, and those before it have none
pub record TokenFault (tokens : List Token) (at : ℕ) (x : Trouble) : Type 0 where
  pub before : List Token
  pub first : Token
  pub after : List Token
  pub split : tokens ≡ before ++ first ∷ after
  pub place : at ≡ first.at
  pub fine : AreFine (map piece_of before)
  pub fault : HasFault (map piece_of before) (piece_of first) x

-- the tokens end at this byte, where they are no file or something begins no token
abbrev pub EndsAt : Ending → List Token → ℕ → Type 0
EndsAt (Cut_off place) tokens at = at ≡ place
EndsAt (Whole place) tokens at = (at ≡ place) × ((f : File) → IsFile f → map piece_of tokens ≢ spelled_file f)

pub record EndFault (tokens : List Token) (ending : Ending) (at : ℕ) (x : Trouble) : Type 0 where
  pub is : x ≡ Syntax
  pub fine : AreFine (map piece_of tokens)
  pub ends : EndsAt ending tokens at

-- the first fault of a text
pub record FirstFault (text : List ℕ) (at : ℕ) (x : Trouble) : Type 0 where
  pub tokens : List Token
  pub ending : Ending
  pub cut : IsCut text tokens ending
  pub fault : TokenFault tokens at x ⊎ EndFault tokens ending at x

abbrev pub IsFault : List ℕ → OwlFault → Type 0
IsFault text (fault.Syntax at) = FirstFault text at Syntax
IsFault text (fault.Unsupported at) = FirstFault text at Unsupported
IsFault text (fault.Prefix at) = FirstFault text at Prefix
IsFault text (fault.TooDeep at) = FirstFault text at TooDeep
IsFault text fault.Memory = Unit {0}
