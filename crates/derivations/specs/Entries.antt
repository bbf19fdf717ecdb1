-- The entries of a menu as they are gathered, in order. Only private calls speak of it.
use Rattle.std.specs.Prelude.{◌≡◌, ℕ, ◌<◌, ◌≤◌, Bool, if◌then◌else◌, List, [], ◌∷◌, ◌++◌, length, map, slice_index_or, IsUtf8}
use Rattle.std.specs.List.{flat_map}
use Rattle.std.specs.Borrow.{Bor}
use Rattle.std.specs.declared.cmp.Ordering.{Ordering}
use Rattle.std.specs.declared.cmp.Ordering.TheVariants.{Less, Equal, Greater}
use Rattle.codeco_terms.specs.GrammarParts.{GrammarParts}
use Rattle.lexicon.specs.Words.{Listed}
use Rattle.lexicon.specs.declared.words.Word.{Word}
use Rattle.derivation_trees.specs.declared.menus.Group.{Group}
use Rattle.derivation_trees.specs.declared.menus.Group.TheVariants.{Function}
use Rattle.derivation_trees.specs.Menus.{group_of, entry_cmp}
use Rattle.derivation_trees.specs.Sentences.{setting_of}
use Rattle.derivations.specs.Among.{Among}
use Rattle.derivations.specs.Beginnings.{has_partial}

-- the entry that the program holds
abbrev pub shown : Group × Bor (List ℕ) → Group × List ℕ
shown entry = (entry.0, entry.1.now)

-- an entry and those after it, with one put among them, where the first of them is before it, is it, or is after it
abbrev pub put_by : Ordering → Group × List ℕ → Group × List ℕ → List (Group × List ℕ) → List (Group × List ℕ) → List (Group × List ℕ)
put_by Less e x xs later = x ∷ later
put_by Equal e x xs later = x ∷ xs
put_by Greater e x xs later = e ∷ x ∷ xs

-- entries that stand in order, with one put among them, where it isn't there yet
abbrev pub with_entry : Group × List ℕ → List (Group × List ℕ) → List (Group × List ℕ)
with_entry e [] = e ∷ []
with_entry e (x ∷ xs) = put_by (entry_cmp x e) e x xs (with_entry e xs)

-- the entry is before each of these
abbrev pub AllBefore : Group × List ℕ → List (Group × List ℕ) → Type 0
AllBefore x [] = Unit {0}
AllBefore x (y ∷ ys) = (entry_cmp x y ≡ Less) × AllBefore x ys

-- each entry is before those after it
abbrev pub IsInOrder : List (Group × List ℕ) → Type 0
IsInOrder [] = Unit {0}
IsInOrder (x ∷ xs) = AllBefore x xs × IsInOrder xs

-- so many of the entries are before the entry, and the next one isn't
pub record IsPlaceFor (entries : List (Group × List ℕ)) (entry : Group × List ℕ) (place : ℕ) : Type 0 where
  pub within : place ≤ length entries
  pub before : (k : ℕ) (d : Group × List ℕ) → k < place → entry_cmp (slice_index_or entries k d) entry ≡ Less
  pub at : (d : Group × List ℕ) → place < length entries → entry_cmp (slice_index_or entries place d) entry ≡ Less → ⊥

-- the entry's token may follow, whatever its group
abbrev pub goes_on : GrammarParts → Listed → List (List ℕ) → Group × List ℕ → Bool
goes_on g lexicon tokens entry = has_partial (setting_of g lexicon (tokens ++ entry.1 ∷ []))

-- the entries with this one, where its token may follow
abbrev pub tried : (Group × List ℕ → Bool) → Group × List ℕ → List (Group × List ℕ) → List (Group × List ℕ)
tried test e entries = if test e then with_entry e entries else entries

-- the entries with those of candidates whose tokens may follow
abbrev pub all_tried : (Group × List ℕ → Bool) → List (Group × List ℕ) → List (Group × List ℕ) → List (Group × List ℕ)
all_tried test [] entries = entries
all_tried test (c ∷ cs) entries = all_tried test cs (tried test c entries)

-- the forms of a word, as candidates
abbrev pub forms_in : Word → List (Group × List ℕ)
forms_in word = map (λ text. (group_of word.forms.kind, text)) word.forms.texts

-- the forms of live words, as candidates
abbrev pub forms_among : List Word → List (Group × List ℕ)
forms_among live = flat_map forms_in live

-- texts as candidates of the group of terminals
abbrev pub functions_in : List (List ℕ) → List (Group × List ℕ)
functions_in texts = map (λ text. (Function, text)) texts

-- the texts that the program holds
abbrev pub texts_of : List (Bor (List ℕ)) → List (List ℕ)
texts_of texts = map (λ text. text.now) texts

-- the texts are those of these terminals that are in UTF-8
pub record AreTexts (texts terminals : List (List ℕ)) : Type 0 where
  pub of : (text : List ℕ) → Among texts text → Among terminals text
  pub whole : (text : List ℕ) → IsUtf8 text → Among terminals text → Among texts text
