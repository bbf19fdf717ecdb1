-- Which tokens may follow, by what is asked for where the tokens end. Only private calls speak of it.
use Rattle.std.specs.Prelude.{◌≡◌, ℕ, ◌+◌, ◌==◌, ◌&&◌, ◌||◌, if◌then◌else◌, Bool, true, false, List, [], ◌∷◌, ◌++◌, length, map, filter, slice_get, slice_index_or, Some, codes, IsTrue, ◌↔◌}
use Rattle.std.specs.List.{list_any}
use Rattle.std.specs.Str.{bytes_eq}
use Rattle.codeco_terms.specs.declared.values.Value.{Value}
use Rattle.codeco_terms.specs.declared.values.Value.TheVariants.{Word as TheWord}
use Rattle.codeco_terms.specs.declared.categories.Ground.{Ground}
use Rattle.codeco_terms.specs.GrammarParts.{GrammarParts}
use Rattle.wiki_base.specs.declared.numbers.WordId.{WordId}
use Rattle.lexicon.specs.declared.kinds.Kind.{Kind}
use Rattle.lexicon.specs.declared.kinds.Kind.TheVariants as kind
use Rattle.lexicon.specs.declared.words.Word.{Word}
use Rattle.lexicon.specs.Readings.{begins_with_vowel, reading, readings_of}
use Rattle.scopes.specs.Resolution.{has_value}
use Rattle.derivation_trees.specs.declared.menus.Group.{Group}
use Rattle.derivation_trees.specs.Settings.{Setting}
use Rattle.derivation_trees.specs.Derives.{text_category}
use Rattle.derivation_trees.specs.Menus.{group_of}
use Rattle.derivations.specs.Among.{Among}
use Rattle.derivations.specs.Entries.{forms_in, functions_in, IsInOrder}
use Rattle.chart_table.specs.declared.asks.Ask.{Ask}
use Rattle.chart_table.specs.declared.asks.Ask.TheVariants as ask
use Rattle.chart_table.specs.Asks.{AskLeads}

-- the tokens with these readings, and one more token with its readings
abbrev pub with_last : GrammarParts → List (List ℕ) → List (List Ground) → List ℕ → List Ground → Setting
with_last g tokens readings token read = record { grammar = g; tokens = tokens ++ token ∷ []; readings = readings ++ read ∷ [] }

-- it is told of each ask whether some partial derivation asks for it at the place
abbrev pub Told : Setting → ℕ → List Ask → List Bool → Type 0
Told s place [] [] = Unit {0}
Told s place [] (b ∷ bs) = ⊥
Told s place (a ∷ rest) [] = ⊥
Told s place (a ∷ rest) (b ∷ bs) =
    (IsTrue b ↔ AskLeads s place a text_category (record { place = 0; list = [] })) × Told s place rest bs

-- the asks for terminals, of which the first has the number
abbrev pub terminal_asks : ℕ → List (List ℕ) → List Ask
terminal_asks number [] = []
terminal_asks number (t ∷ ts) = ask.Terminal number ∷ terminal_asks (number + 1) ts

-- the text is one of the terminals, and it is told that this one may follow
abbrev pub some_follows : List ℕ → List (List ℕ) → List Bool → Bool
some_follows text [] told = false
some_follows text (t ∷ ts) [] = false
some_follows text (t ∷ ts) (b ∷ bs) = (bytes_eq text t && b) || some_follows text ts bs

-- one of the readings has the word
abbrev pub has_in : List Ground → Value → Bool
has_in readings word = list_any (λ r. has_value r.vals (3, word)) readings

-- the word has a form among the tokens that have these readings
abbrev pub is_used : List (List Ground) → WordId → Bool
is_used readings id = list_any (λ one. has_in one (TheWord id)) readings

-- the word is one of these
abbrev pub has_id : List WordId → WordId → Bool
has_id ids id = list_any (λ other. other.0 == id.0) ids

-- the words that are among the new ones are the old ones and those of which this holds
abbrev pub Gains : List WordId → List WordId → (WordId → Bool) → Type 0
Gains old new p = (id : WordId) → has_id new id ≡ (has_id old id || p id)

-- the words are those that have a form among the tokens that have these readings
abbrev pub AreUsed : List (List Ground) → List WordId → Type 0
AreUsed readings ids = (id : WordId) → has_id ids id ≡ is_used readings id

-- the asks for the forms of a word, of which the first has the place
abbrev pub form_asks : Kind → WordId → ℕ → List (List ℕ) → List Ask
form_asks k id place [] = []
form_asks k id place (form ∷ forms) = ask.Reading (reading k id place form) ∷ form_asks k id (place + 1) forms

-- the asks for the forms of the words that have a form among the tokens
abbrev pub used_asks : List (List Ground) → List Word → List Ask
used_asks readings [] = []
used_asks readings (w ∷ ws) =
    if is_used readings w.id then form_asks w.forms.kind w.id 0 w.forms.texts ++ used_asks readings ws else used_asks readings ws

-- the forms of the words that have a form among the tokens
abbrev pub used_forms : List (List Ground) → List Word → List (Group × List ℕ)
used_forms readings [] = []
used_forms readings (w ∷ ws) = if is_used readings w.id then forms_in w ++ used_forms readings ws else used_forms readings ws

-- those of which it is told that they may follow
abbrev pub chosen : {X : Type 0} → List X → List Bool → List X
chosen [] bs = []
chosen (x ∷ xs) [] = []
chosen (x ∷ xs) (b ∷ bs) = if b then x ∷ chosen xs bs else chosen xs bs

-- The class of the form at a place of a word of the kind. The forms of one class read alike but for their words: it tells the
-- kind, the number or the place, and where it matters whether the form begins with a vowel.
abbrev pub class_of : Kind → ℕ → List ℕ → ℕ
class_of kind.Name place form = 0
class_of kind.Noun place form =
    if place == 0 then (if begins_with_vowel form then 1 else 2) else (if begins_with_vowel form then 3 else 4)
class_of kind.Of place form = if begins_with_vowel form then 5 else 6
class_of kind.Verb place form = if place == 0 then 7 else (if place == 1 then 8 else 9)
class_of kind.Adjective place form = 10

-- the readings of the forms of the classes, with the word
abbrev pub class_readings : WordId → List Ground
class_readings id =
    reading kind.Name id 0 (codes "b") ∷ reading kind.Noun id 0 (codes "a") ∷ reading kind.Noun id 0 (codes "b") ∷ reading kind.Noun id 1 (codes "a")
    ∷ reading kind.Noun id 1 (codes "b") ∷ reading kind.Of id 0 (codes "a") ∷ reading kind.Of id 0 (codes "b") ∷ reading kind.Verb id 0 (codes "b")
    ∷ reading kind.Verb id 1 (codes "b") ∷ reading kind.Verb id 2 (codes "b") ∷ reading kind.Adjective id 0 (codes "b") ∷ []

-- the forms of a word, of which the first has the place, of whose class it is told that it may follow
abbrev pub told_forms : List Bool → Kind → ℕ → List (List ℕ) → List (Group × List ℕ)
told_forms told k place [] = []
told_forms told k place (form ∷ forms) =
    if slice_index_or told (class_of k place form) false then (group_of k, form) ∷ told_forms told k (place + 1) forms else told_forms told k (place + 1) forms

-- the forms of the words without a form among the tokens, of whose class it is told that it may follow
abbrev pub new_forms : List (List Ground) → List Bool → List Word → List (Group × List ℕ)
new_forms readings told [] = []
new_forms readings told (w ∷ ws) =
    if is_used readings w.id then new_forms readings told ws else told_forms told w.forms.kind 0 w.forms.texts ++ new_forms readings told ws

-- What is found of terminals and of forms of words among the tokens: those of which it is told that they may follow, by one
-- table, of the tokens with one more that has no readings.
pub record KnownFound (g : GrammarParts) (live : List Word) (tokens : List (List ℕ)) (texts : List (List ℕ)) (before after : List (Group × List ℕ)) : Type 0
  where
    pub token : List ℕ
    pub terminals : List Bool
    pub forms : List Bool
    pub told_terminals : Told (with_last g tokens (map (readings_of live) tokens) token []) (length tokens) (terminal_asks 0 g.terminals) terminals
    pub told_forms : Told (with_last g tokens (map (readings_of live) tokens) token []) (length tokens) (used_asks (map (readings_of live) tokens) live) forms
    pub found : after ≡ (before ++ functions_in (filter (λ text. some_follows text g.terminals terminals) texts))
        ++ chosen (used_forms (map (readings_of live) tokens) live) forms

-- What is found of forms of other words: those of whose class it is told that it may follow, by one table, of the tokens with
-- one more that reads as a form of a word that has no form among the tokens.
pub record NewFound (g : GrammarParts) (live : List Word) (tokens : List (List ℕ)) (before after : List (Group × List ℕ)) : Type 0 where
  pub token : List ℕ
  pub place : ℕ
  pub word : Word
  pub form : List ℕ
  pub told : List Bool
  pub lives : slice_get live place ≡ Some word
  pub form_is : slice_get word.forms.texts 0 ≡ Some form
  pub new : is_used (map (readings_of live) tokens) word.id ≡ false
  pub told_classes : Told (with_last g tokens (map (readings_of live) tokens) token (readings_of live form)) (length tokens)
      (map ask.Reading (class_readings word.id)) told
  pub found : after ≡ before ++ new_forms (map (readings_of live) tokens) told live

-- every word has a form among the tokens, and so there is no other to be found
pub record NoneNew (live : List Word) (tokens : List (List ℕ)) (before after : List (Group × List ℕ)) : Type 0 where
  pub used : (place : ℕ) (word : Word) → slice_get live place ≡ Some word → is_used (map (readings_of live) tokens) word.id ≡ true
  pub found : after ≡ before

-- the entries are those that were found, in order, each once
pub record IsOrdered (found entries : List (Group × List ℕ)) : Type 0 where
  pub ordered : IsInOrder entries
  pub kept : (e : Group × List ℕ) → Among found e → Among entries e
  pub only : (e : Group × List ℕ) → Among entries e → Among found e
