-- What is no form of a word has no reading by it.
use Rattle.std.proofs.Common.{◌≡◌, ℕ, List, [], ◌∷◌, ◌++◌, Bool, true, false, Some, None, find, option_map, refl, ap, ◌∙◌}
use Rattle.std.specs.Prelude.{if◌then◌else◌}
use Rattle.codeco_terms.specs.declared.categories.Ground.{Ground}
use Rattle.lexicon.specs.declared.words.Word.{Word}
use Rattle.lexicon.specs.Words.{has_form, owner}
use Rattle.lexicon.specs.Readings.{readings_of_word, readings_of}
use Rattle.lexicon.proofs.Reading.{readings_from_none}

-- a word without the form gives no reading
pub no_readings : (token : List ℕ) (word : Word) → has_form token word ≡ false → readings_of_word token word ≡ []
no_readings token word h = readings_from_none word.forms.kind word.id token 0 word.forms.texts h

-- a form that no word has reads as nothing
pub unread : (live : List Word) (token : List ℕ) → owner live token ≡ None → readings_of live token ≡ []
unread [] token h = refl
unread (word ∷ live) token h = by (has_form token word) refl h (unread live token)
  where
    by : (b : Bool) → has_form token word ≡ b → option_map (λ (w : Word). w.id) (if b then Some word else find (has_form token) live) ≡ None
        → (owner live token ≡ None → readings_of live token ≡ []) → readings_of (word ∷ live) token ≡ []
    by true e k later = cc
    by false e k later = ap (λ (rs : List Ground). rs ++ readings_of live token) (no_readings token word e) ∙ later k
