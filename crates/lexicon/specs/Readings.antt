-- What a form of a word is to a grammar: the preterminal of its kind, with values of its features.
use Rattle.std.specs.Prelude.{ℕ, ◌+◌, ◌==◌, Bool, false, if◌then◌else◌, List, [], ◌∷◌, codes}
use Rattle.std.specs.List.{flat_map, list_any}
use Rattle.std.specs.Str.{bytes_eq}
use Rattle.wiki_base.specs.declared.numbers.WordId.{WordId}
use Rattle.codeco_terms.specs.declared.values.Value.{Value}
use Rattle.codeco_terms.specs.declared.values.Value.TheVariants.{Atom, Word as TheWord}
use Rattle.codeco_terms.specs.declared.categories.Ground.{Ground}
use Rattle.lexicon.specs.declared.kinds.Kind.{Kind}
use Rattle.lexicon.specs.declared.kinds.Kind.TheVariants.{Name, Noun, Of, Verb, Adjective}
use Rattle.lexicon.specs.declared.words.Word.{Word}

-- Every grammar has the features 0 to 3 for `num`, `vow`, `form` and `w`, the atoms 0 to 6 for `sg`, `pl`, `yes`, `no`,
-- `third`, `inf` and `part`, and the categories 0 to 4 for `$name`, `$noun`, `$of`, `$verb` and `$adj`.

-- the byte is one of the letters a, e, i, o, u, A, E, I, O, U
abbrev pub is_vowel : ℕ → Bool
is_vowel b = list_any (λ vowel. vowel == b) (codes "aeiouAEIOU")

-- the form begins with one of these letters
abbrev pub begins_with_vowel : List ℕ → Bool
begins_with_vowel [] = false
begins_with_vowel (b ∷ bs) = is_vowel b

-- the atom that says whether it does: `yes` or `no`
abbrev pub vow_of : List ℕ → Value
vow_of form = if begins_with_vowel form then Atom 2 else Atom 3

-- the atom of a noun's form at a place: `sg` of the singular, `pl` of the plural
abbrev pub number_at : ℕ → Value
number_at place = if place == 0 then Atom 0 else Atom 1

-- the atom of a verb's form at a place: `third`, `inf` or `part`
abbrev pub form_at : ℕ → Value
form_at place = if place == 0 then Atom 4 else (if place == 1 then Atom 5 else Atom 6)

-- what the form at a place of a word of the kind is to a grammar
abbrev pub reading : Kind → WordId → ℕ → List ℕ → Ground
reading Name id place form = record { name = 0; vals = (3, TheWord id) ∷ [] }
reading Noun id place form = record { name = 1; vals = (0, number_at place) ∷ (1, vow_of form) ∷ (3, TheWord id) ∷ [] }
reading Of id place form = record { name = 2; vals = (1, vow_of form) ∷ (3, TheWord id) ∷ [] }
reading Verb id place form = record { name = 3; vals = (2, form_at place) ∷ (3, TheWord id) ∷ [] }
reading Adjective id place form = record { name = 4; vals = (3, TheWord id) ∷ [] }

-- the readings of the token at these forms of a word, of which the first has the place
abbrev pub readings_from : Kind → WordId → List ℕ → ℕ → List (List ℕ) → List Ground
readings_from kind id token place [] = []
readings_from kind id token place (form ∷ forms) =
    if bytes_eq token form then reading kind id place form ∷ readings_from kind id token (place + 1) forms
    else readings_from kind id token (place + 1) forms

-- the readings of the token as a form of the word: one for each form that it is
abbrev pub readings_of_word : List ℕ → Word → List Ground
readings_of_word token word = readings_from word.forms.kind word.id token 0 word.forms.texts

-- the readings of the token as a form of a live word
abbrev pub readings_of : List Word → List ℕ → List Ground
readings_of live token = flat_map (readings_of_word token) live
