-- The kinds of words, and how many forms a word of each kind has.
use Rattle.std.specs.Prelude.{◌≡◌, ℕ, length}
use Rattle.lexicon.specs.declared.kinds.Kind.{Kind}
use Rattle.lexicon.specs.declared.kinds.Kind.TheVariants.{Noun, Verb}
use Rattle.lexicon.specs.declared.kinds.Forms.{Forms}

-- how many forms a word of the kind has: a noun its singular and plural, a verb its third person, infinitive and participle
abbrev pub form_count : Kind → ℕ
form_count Noun = 2
form_count Verb = 3
form_count _ = 1

-- the place of the canonical form: the text, the singular or the infinitive
abbrev pub canonical_place : Kind → ℕ
canonical_place Verb = 1
canonical_place _ = 0

-- the forms are as many as their kind has
abbrev pub IsComplete : Forms → Type 0
IsComplete forms = length forms.texts ≡ form_count forms.kind
