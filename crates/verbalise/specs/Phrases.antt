-- Parts of sentences: their tokens, or none where no pattern fits.
use Prim.Native.String.{String}
use Rattle.std.specs.Prelude.{ℕ, List, [], ◌∷◌, ◌++◌, Option, Some, None, codes, slice_get, option_map, if◌then◌else◌}
use Rattle.lexicon.specs.Readings.{begins_with_vowel}

-- the tokens of a part of a sentence, or none where no pattern fits
abbrev pub Phrase : Type 0
Phrase = Option (List (List ℕ))

-- the one part and then the other
infixl 60 ◌⋅◌
abbrev pub ◌⋅◌ : Phrase → Phrase → Phrase
(Some tokens) ⋅ (Some more) = Some (tokens ++ more)
_ ⋅ _ = None

-- a word of the grammar
abbrev pub the : String → Phrase
the word = Some (codes word ∷ [])

-- what stands before a form: `an` where it begins with one of the letters a, e, i, o, u, and else `a`
abbrev pub article : List ℕ → List ℕ
article form = if begins_with_vowel form then codes "an" else codes "a"

-- the form at a place, and the first form behind its article
abbrev pub form_at : List (List ℕ) → ℕ → Phrase
form_at forms place = option_map (λ form. form ∷ []) (slice_get forms place)

abbrev pub form_with_article : List (List ℕ) → Phrase
form_with_article forms = option_map (λ form. article form ∷ form ∷ []) (slice_get forms 0)
