-- Words in sentences, each by its number. A word that doesn't live, or is of another kind, is said by no pattern.
use Rattle.std.specs.Prelude.{ℕ, Bool, true, false, List, None, if◌then◌else◌}
use Rattle.std.specs.Option.{option_and_then}
use Rattle.wiki_base.specs.declared.numbers.WordId.{WordId}
use Rattle.lexicon.specs.declared.kinds.Kind.{Kind}
use Rattle.lexicon.specs.declared.kinds.Kind.TheVariants.{Name, Noun, Of, Verb, Adjective}
use Rattle.lexicon.specs.declared.words.Word.{Word}
use Rattle.lexicon.specs.Words.{forms_of}
use Rattle.logic_terms.specs.declared.expressions.Role.{Role}
use Rattle.verbalise.specs.Phrases.{Phrase, ◌⋅◌, the, form_at, form_with_article}

-- What is said by the forms of a word, which depends on its kind. A name has one form; a noun its singular and plural; a
-- verb its third person, infinitive and participle; an adjective and an of-construct one form.

-- a name
abbrev pub name_form : Kind → List (List ℕ) → Phrase
name_form Name forms = form_at forms 0
name_form _ forms = None

-- the singular of a noun, the singular behind its article, and the plural
abbrev pub singular_form : Kind → List (List ℕ) → Phrase
singular_form Noun forms = form_at forms 0
singular_form _ forms = None

abbrev pub article_form : Kind → List (List ℕ) → Phrase
article_form Noun forms = form_with_article forms
article_form _ forms = None

abbrev pub plural_form : Kind → List (List ℕ) → Phrase
plural_form Noun forms = form_at forms 1
plural_form _ forms = None

-- the third person of a verb
abbrev pub third_form : Kind → List (List ℕ) → Phrase
third_form Verb forms = form_at forms 0
third_form _ forms = None

-- a relation word before its object, straight or inverted
abbrev pub relation : Bool → Kind → List (List ℕ) → Phrase → Phrase
relation false Verb forms object = form_at forms 0 ⋅ object
relation false Adjective forms object = the "is" ⋅ form_at forms 0 ⋅ object
relation false Of forms object = the "is" ⋅ form_with_article forms ⋅ the "of" ⋅ object
relation true Verb forms object = the "is" ⋅ form_at forms 2 ⋅ the "by" ⋅ object
relation _ _ forms object = None

-- its denial
abbrev pub denial : Bool → Kind → List (List ℕ) → Phrase → Phrase
denial false Verb forms object = the "does" ⋅ the "not" ⋅ form_at forms 1 ⋅ object
denial false Adjective forms object = the "is" ⋅ the "not" ⋅ form_at forms 0 ⋅ object
denial false Of forms object = the "is" ⋅ the "not" ⋅ form_with_article forms ⋅ the "of" ⋅ object
denial true Verb forms object = the "is" ⋅ the "not" ⋅ form_at forms 2 ⋅ the "by" ⋅ object
denial _ _ forms object = None

-- The same for words by their numbers.

-- what is said by the forms of the live word with the number
abbrev pub said_by : (Kind → List (List ℕ) → Phrase) → List Word → WordId → Phrase
said_by says live id = option_and_then (λ forms. says forms.kind forms.texts) (forms_of live id)

abbrev pub name : List Word → WordId → Phrase
name = said_by name_form

abbrev pub singular : List Word → WordId → Phrase
singular = said_by singular_form

abbrev pub a_singular : List Word → WordId → Phrase
a_singular = said_by article_form

abbrev pub plural : List Word → WordId → Phrase
plural = said_by plural_form

abbrev pub third : List Word → WordId → Phrase
third = said_by third_form

-- R o and not R o, for a role R and its object o
abbrev pub related : List Word → Role → Phrase → Phrase
related live role object = said_by (λ kind forms. relation role.inverted kind forms object) live role.id

abbrev pub not_related : List Word → Role → Phrase → Phrase
not_related live role object = said_by (λ kind forms. denial role.inverted kind forms object) live role.id

-- where a role is straight, and where it is inverted
abbrev pub where_straight : Role → Phrase → Phrase
where_straight role phrase = if role.inverted then None else phrase

abbrev pub where_inverted : Role → Phrase → Phrase
where_inverted role phrase = if role.inverted then phrase else None
