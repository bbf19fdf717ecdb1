-- A lexicon as the list of its live words.
use Rattle.std.specs.Prelude.{◌≡◌, ℕ, ◌+◌, ◌<◌, ◌≤◌, ◌^◌, ◌==◌, Bool, true, false, not, if◌then◌else◌, List, [], ◌∷◌, ◌++◌, length, map, All, AllPairs, filter, find, slice_get, option_map, Option, Some, None, ⊤}
use Rattle.std.specs.Option.{option_or, option_map_or, option_and_then}
use Rattle.std.specs.List.{list_any, HoldsAt}
use Rattle.std.specs.Str.{bytes_eq}
use Rattle.wiki_base.specs.declared.numbers.WordId.{WordId}
use Rattle.wiki_base.specs.Text.{IsText}
use Rattle.lexicon.specs.declared.kinds.Forms.{Forms}
use Rattle.lexicon.specs.declared.words.Word.{Word}
use Rattle.lexicon.specs.declared.words.LexFault.{LexFault}
use Rattle.lexicon.specs.declared.words.LexLimit.TheVariants.{Words, Numbers}
use Rattle.lexicon.specs.declared.words.TheConstants.{MOST_WORDS, LAST_NUMBER}
use Rattle.lexicon.specs.declared.words.LexFault.TheVariants.{Taken, Reserved, NoWord, Full, Memory}
use Rattle.lexicon.specs.Kinds.{canonical_place, IsComplete}
use Rattle.lexicon.specs.Terminals.{is_reserved}

-- the live words, the terminals of the grammar, and the last number that was given to a word
pub record Listed : Type 0 where
  pub live : List Word
  pub terminals : List (List ℕ)
  pub last : ℕ

-- the text is one of these
abbrev pub is_among : List (List ℕ) → List ℕ → Bool
is_among texts text = list_any (bytes_eq text) texts

-- the text is a form of the word
abbrev pub has_form : List ℕ → Word → Bool
has_form text word = is_among word.forms.texts text

-- the word has the number
abbrev pub has_number : WordId → Word → Bool
has_number id word = word.id.0 == id.0

-- the word that has the text as a form
abbrev pub owner : List Word → List ℕ → Option WordId
owner live text = option_map (λ word. word.id) (find (has_form text) live)

-- the forms of the word with the number
abbrev pub forms_of : List Word → WordId → Option Forms
forms_of live id = option_map (λ word. word.forms) (find (has_number id) live)

-- the canonical form of the word with the number
abbrev pub canonical_form_of : List Word → WordId → Option (List ℕ)
canonical_form_of live id = option_and_then (λ forms. slice_get forms.texts (canonical_place forms.kind)) (forms_of live id)

-- the words but for the one with the number
abbrev pub others : List Word → WordId → List Word
others live id = filter (λ word. not (has_number id word)) live

-- no form of the one word is a form of the other
abbrev pub SharesNoForm : Word → Word → Type 0
SharesNoForm word other = (text : List ℕ) → has_form text word ≡ true → has_form text other ≡ false

-- no form of the word is one of the terminals, or one of them with its first letter raised
abbrev pub HasNoTerminal : List (List ℕ) → Word → Type 0
HasNoTerminal terminals word = (text : List ℕ) → has_form text word ≡ true → is_reserved terminals text ≡ false

-- The words stand in order of number, each number is above 0 and at most the last one given, each word has the forms
-- of its kind, each form is a text, and no form of a word is a form of another word, a terminal, or a terminal with
-- its first letter raised. After Kuhn's lexicon of five kinds of words; the rule on forms is this wiki's own.
pub record IsLexicon (listed : Listed) : Type 0 where
  pub in_order : AllPairs (λ word later. word.id.0 < later.id.0) listed.live
  pub given : All (λ word. (0 < word.id.0) × (word.id.0 ≤ listed.last)) listed.live
  pub complete : All (λ word. IsComplete word.forms) listed.live
  pub spelled : All (λ word. All IsText word.forms.texts) listed.live
  pub apart : AllPairs SharesNoForm listed.live
  pub unreserved : All (HasNoTerminal listed.terminals) listed.live
  pub few : length listed.live ≤ MOST_WORDS
  pub last_fits : listed.last < 2 ^ 32

-- the word that would be added next, with these forms
abbrev pub next_word : Listed → Forms → Word
next_word listed forms = record { id = record { 0 = listed.last + 1 }; forms = forms }

-- the list with a word of these forms added at its end, under the next number
abbrev pub with_word : Listed → Forms → Listed
with_word listed forms = record listed { live = listed.live ++ next_word listed forms ∷ []; last = listed.last + 1 }

-- the list with these forms for the word with the number
abbrev pub with_forms : Listed → WordId → Forms → Listed
with_forms listed id forms =
    record listed { live = map (λ word. if has_number id word then record word { forms = forms } else word) listed.live }

-- the list without the word with the number
abbrev pub without_word : Listed → WordId → Listed
without_word listed id = record listed { live = others listed.live id }

-- the list beside these terminals
abbrev pub with_terminals : Listed → List (List ℕ) → Listed
with_terminals listed terminals = record listed { terminals = terminals }

-- the first of the texts that is a form of one of the words
abbrev pub first_taken : List Word → List (List ℕ) → Option LexFault
first_taken live [] = None
first_taken live (text ∷ texts) = option_or (option_map (Taken text) (owner live text)) (first_taken live texts)

-- the first of the texts that is a terminal, or a terminal with its first letter raised
abbrev pub first_reserved : List (List ℕ) → List (List ℕ) → Option LexFault
first_reserved terminals [] = None
first_reserved terminals (text ∷ texts) =
    if is_reserved terminals text then Some (Reserved text) else first_reserved terminals texts

-- no word can be added: there are `MOST_WORDS`, or all numbers are given
abbrev pub fullness : Listed → Option LexFault
fullness listed =
    if length listed.live == MOST_WORDS then Some (Full Words) else (if listed.last == LAST_NUMBER then Some (Full Numbers) else None)

-- the first cause that stands against forms beside these words
abbrev pub forms_refusal : List Word → List (List ℕ) → Forms → Option LexFault
forms_refusal live terminals forms = option_or (first_taken live forms.texts) (first_reserved terminals forms.texts)

-- the first cause that stands against adding a word with these forms
abbrev pub add_refusal : Listed → Forms → Option LexFault
add_refusal listed forms = option_or (forms_refusal listed.live listed.terminals forms) (fullness listed)

-- the first cause that stands against giving the word with the number these forms
abbrev pub reword_refusal : Listed → WordId → Forms → Option LexFault
reword_refusal listed id forms =
    option_map_or (λ _. forms_refusal (others listed.live id) listed.terminals forms) (forms_of listed.live id) (Some (NoWord id))

-- the first form, by number of its word and then in the order of its forms, that is one of these terminals, or one of them raised
abbrev pub reground_refusal : List Word → List (List ℕ) → Option LexFault
reground_refusal [] terminals = None
reground_refusal (word ∷ live) terminals = option_or (first_reserved terminals word.forms.texts) (reground_refusal live terminals)

-- the fault is the cause, or want of memory
abbrev pub IsRefusal : Option LexFault → LexFault → Type 0
IsRefusal cause (Taken text word) = cause ≡ Some (Taken text word)
IsRefusal cause (Reserved text) = cause ≡ Some (Reserved text)
IsRefusal cause (NoWord id) = cause ≡ Some (NoWord id)
IsRefusal cause (Full limit) = cause ≡ Some (Full limit)
IsRefusal cause Memory = ⊤

-- the word with the number stands at the place
pub record IsPlaceOf (live : List Word) (id : WordId) (place : ℕ) : Type 0 where
  pub in_range : place < length live
  pub numbered : HoldsAt (λ word. word.id.0 ≡ id.0) live place
