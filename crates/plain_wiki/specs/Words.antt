-- Words as the wiki tells them, and why a new one is refused. After Kuhn's lexicon.
use Rattle.std.specs.Prelude.{ℕ, List, [], is_some, map, option_map, option_and_then, Option, Some, None, unwrap_or, slice_get}
use Rattle.std.specs.Option.{option_or}
use Rattle.std.specs.List.{position_from}
use Rattle.wiki_base.specs.Text.{fault_of}
use Rattle.wiki_base.specs.declared.numbers.WordId.{WordId}
use Rattle.lexicon.specs.declared.kinds.Kind.{Kind}
use Rattle.lexicon.specs.declared.kinds.Forms.{Forms}
use Rattle.lexicon.specs.declared.words.LexFault.{LexFault}
use Rattle.lexicon.specs.declared.words.LexFault.TheVariants as faults
use Rattle.lexicon.specs.declared.words.LexLimit.{LexLimit}
use Rattle.lexicon.specs.declared.words.LexLimit.TheVariants as bounds
use Rattle.lexicon.specs.declared.suggest.FormFault.{FormFault}
use Rattle.lexicon.specs.declared.suggest.FormFault.TheVariants as form_faults
use Rattle.lexicon.specs.Kinds.{canonical_place}
use Rattle.lexicon.specs.Suggest.{form_texts, form_fault, told}
use Rattle.lexicon.specs.Words.{Listed, forms_of, add_refusal}
use Rattle.wiki_talk.specs.declared.limits.Limit.{Limit}
use Rattle.wiki_talk.specs.declared.limits.Limit.TheVariants as limits
use Rattle.wiki_talk.specs.declared.refusals.Refusal.{Refusal}
use Rattle.wiki_talk.specs.declared.refusals.Refusal.TheVariants.{BadForm, Taken, Reserved, Full}
use Rattle.wiki_talk.specs.declared.replies.WordView.{WordView}
use Rattle.wiki_talk.specs.Limits.{amount_of}

-- the form that names the word: the text, the singular or the infinitive
abbrev pub canonical : Forms → List ℕ
canonical forms = unwrap_or (slice_get forms.texts (canonical_place forms.kind)) []

-- a word as it is told
abbrev pub told_word : Forms → WordView
told_word forms = record { kind = forms.kind; forms = forms.texts }

-- all live words as they are told, in order of number
abbrev pub told_words : Listed → List WordView
told_words words = map (λ word. told_word word.forms) words.live

-- ---- why a new word is refused

-- the number that a fault of the forms tells
abbrev pub number_of : FormFault → ℕ
number_of (form_faults.Count n) = n
number_of (form_faults.TooLong n) = n
number_of form_faults.Memory = 0

-- the place, from 0, of the first of the texts that can't be a form
abbrev pub bad_text : List (List ℕ) → Option Refusal
bad_text texts = option_map (λ place. BadForm (told place)) (position_from (λ text. is_some (fault_of text)) 0 texts)

-- how many the texts are, where so many can't be the forms of the kind
abbrev pub bad_count : Kind → List (List ℕ) → Option Refusal
bad_count kind texts = option_map (λ fault. BadForm (number_of fault)) (form_fault kind texts)

-- the limit of a lexicon is reached
abbrev pub full_at : Limit → Refusal
full_at limit = Full limit (amount_of limit)

abbrev pub full_refusal : LexLimit → Refusal
full_refusal bounds.Words = full_at limits.Words
full_refusal bounds.Numbers = full_at limits.Numbers

-- the text is a form of the word with the number, which is told by its canonical form
abbrev pub taken_refusal : Listed → List ℕ → WordId → Option Refusal
taken_refusal words text id = option_map (λ forms. Taken text (canonical forms)) (forms_of words.live id)

-- the refusal that tells a fault of the lexicon; a lexicon refuses no new word for a number that isn't there
abbrev pub told_fault : Listed → LexFault → Option Refusal
told_fault words (faults.Taken text id) = taken_refusal words text id
told_fault words (faults.Reserved text) = Some (Reserved text)
told_fault words (faults.Full limit) = Some (full_refusal limit)
told_fault words (faults.NoWord id) = None
told_fault words faults.Memory = None

abbrev pub lexicon_refusal : Listed → Option LexFault → Option Refusal
lexicon_refusal words fault = option_and_then (told_fault words) fault

-- the forms of a word of the kind for which these texts are given
abbrev pub forms_given : Kind → List (List ℕ) → Forms
forms_given kind texts = record { kind = kind; texts = form_texts kind texts }

-- What stands against a new word, the first of the causes in this order: a text that can't be a form, a wrong number of
-- texts, and what stands against its forms beside the words that live.
unfoldable pub word_refusal : Listed → Kind → List (List ℕ) → Option Refusal
word_refusal words kind texts =
    option_or (bad_text texts) (option_or (bad_count kind texts) (lexicon_refusal words (add_refusal words (forms_given kind texts))))
