-- Sentences by other words, or by another grammar.
use Rattle.std.specs.Prelude.{◌≡◌, ℕ, ◌⊎◌, List, [], ◌∷◌, map, find, All, Option, Some, None, option_map, false}
use Rattle.std.specs.List.{list_any}
use Rattle.wiki_base.specs.declared.numbers.WordId.{WordId}
use Rattle.wiki_base.specs.declared.numbers.Place.{Place}
use Rattle.codeco_terms.specs.GrammarParts.{GrammarParts}
use Rattle.lexicon.specs.declared.kinds.Forms.{Forms}
use Rattle.lexicon.specs.Words.{Listed, is_among, forms_of, canonical_form_of, without_word}
use Rattle.plain_wiki.specs.State.{Stored}
use Rattle.wiki_talk.specs.declared.refusals.Refusal.{Refusal}
use Rattle.plain_wiki.specs.Places.{Placed, all_placed, told_place}
use Rattle.plain_wiki.specs.Meanings.{Meaning, Means}
use Rattle.plain_wiki.specs.Knowledge.{sentences_in}
use Rattle.plain_wiki.specs.Causes.{KeepsMeaning, uses_word}

-- The words stand beside the terminals of the grammar, they have the numbers of the wiki's words, and each sentence keeps its meaning by the
-- two.
pub record KeepsSentences (state : Stored) (other : GrammarParts) (new : Listed) : Type 0 where
  pub numbers : map (λ word. word.id) new.live ≡ map (λ word. word.id) state.words.live
  pub terminals : new.terminals ≡ other.terminals
  pub last : new.last ≡ state.words.last
  pub keep : All (λ sentence. KeepsMeaning state.grammar state.words other new sentence.tokens) (sentences_in state.articles)

-- the words are those of the wiki but for one that no sentence needs
pub record IsGone (state : Stored) (word : WordId) (new : Listed) : Type 0 where
  pub forms : Forms
  pub of_word : forms_of state.words.live word ≡ Some forms
  pub unused : find (uses_word word forms) (all_placed state.articles) ≡ None
  pub words : new ≡ without_word state.words word

-- each sentence that has none of the texts keeps its meaning by the other grammar and words
abbrev pub KeepsOthers : GrammarParts → Listed → GrammarParts → Listed → List (List ℕ) → Type 0
KeepsOthers g old other new texts = (tokens : List (List ℕ)) (meaning : Meaning) → list_any (is_among texts) tokens ≡ false → Means g old tokens meaning
    → Means other new tokens meaning

-- the same of the forms of a word, where there is one whose forms alone are looked at
abbrev pub PassesOthers : GrammarParts → Listed → GrammarParts → Listed → Option Forms → Type 0
PassesOthers g old other new None = Unit {0}
PassesOthers g old other new (Some forms) = KeepsOthers g old other new forms.texts

-- the first of the sentences that lacks the property, if one does
abbrev pub Finds : (Placed → Type 0) → List Placed → Option Placed → Type 0
Finds P [] None = Unit {0}
Finds P [] (Some found) = ⊥
Finds P (placed ∷ others) found = (P placed × Finds P others found) ⊎ ((¬ P placed) × (found ≡ Some placed))

-- its place, if there is one
pub record FindsPlace (P : Placed → Type 0) (sentences : List Placed) (place : Option Place) : Type 0 where
  pub found : Option Placed
  pub told : option_map told_place found ≡ place
  pub finds : Finds P sentences found

-- a place is told by the canonical form of its article's word
pub record TellsPlace (stored : Stored) (tell : List ℕ → ℕ → Refusal) (word : WordId) (place : ℕ) (refusal : Refusal) : Type 0 where
  pub form : List ℕ
  pub spelled : canonical_form_of stored.words.live word ≡ Some form
  pub told : refusal ≡ tell form place
