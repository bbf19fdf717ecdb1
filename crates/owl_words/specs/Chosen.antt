-- The forms that an entity gets beside the words that there are.
use Rattle.std.specs.Prelude.{◌≡◌, ℕ, ◌<◌, Bool, true, false, is_some, List, Option, Some, None}
use Rattle.lexicon.specs.declared.kinds.Kind.{Kind}
use Rattle.lexicon.specs.declared.kinds.Forms.{Forms}
use Rattle.lexicon.specs.Words.{Listed, with_word, forms_refusal}
use Rattle.owl_words.specs.Bases.{base}
use Rattle.owl_words.specs.Attempts.{attempted}

-- whether forms can't be had: there are none, or one of them is a form of a live word or of the grammar
abbrev pub is_refused : Listed → Option Forms → Bool
is_refused words None = true
is_refused words (Some forms) = is_some (forms_refusal words.live words.terminals forms)

-- each attempt before this one is refused
abbrev pub AreRefused : Listed → Kind → List ℕ → ℕ → Type 0
AreRefused words kind cs count = (attempt : ℕ) → attempt < count → is_refused words (attempted kind cs attempt) ≡ true

-- this attempt is the first that isn't refused, with these forms
pub record IsFirstFree (words : Listed) (kind : Kind) (cs : List ℕ) (attempt : ℕ) (forms : Forms) : Type 0 where
  pub attempted_so : attempted kind cs attempt ≡ Some forms
  pub free : is_refused words (Some forms) ≡ false
  pub first : AreRefused words kind cs attempt

-- a word was added, with the first forms for these characters that are free, which are those of this attempt
pub record AddsFree (old : Listed) (kind : Kind) (cs : List ℕ) (attempt : ℕ) (new : Listed) : Type 0 where
  pub forms : Forms
  pub chosen : IsFirstFree old kind cs attempt forms
  pub added : new ≡ with_word old forms

-- a word was added for an entity of the IRI
abbrev pub AddsWord : Listed → Kind → List ℕ → Listed → Type 0
AddsWord old kind iri new = (attempt : ℕ) × AddsFree old kind (base kind iri) attempt new

-- what came of an attempt: a word with these forms was added, or they are refused
abbrev pub Tries : Listed → Option Forms → Bool → Listed → Type 0
Tries old None added new = (added ≡ false) × (new ≡ old)
Tries old (Some forms) true new = (is_refused old (Some forms) ≡ false) × (new ≡ with_word old forms)
Tries old (Some forms) false new = (is_refused old (Some forms) ≡ true) × (new ≡ old)
