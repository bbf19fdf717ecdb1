-- What is told of sentences.
use Rattle.std.specs.Prelude.{◌≡◌, ℕ, List, [], map, MatchBool}
use Rattle.std.specs.List.{AllZip}
use Rattle.std.specs.Option.{option_map_or}
use Rattle.wiki_base.specs.declared.numbers.WordId.{WordId}
use Rattle.lexicon.specs.Words.{Listed, canonical_form_of}
use Rattle.derivation_trees.specs.Cutting.{shown}
use Rattle.logic_terms.specs.Concept.{Concept, Claim}
use Rattle.owl_text.specs.Texts.{class_text, claim_text}
use Rattle.wiki_talk.specs.declared.replies.Meant.{Meant}
use Rattle.wiki_talk.specs.declared.replies.Meant.TheVariants.{Axioms, Class, Outside}
use Rattle.wiki_talk.specs.declared.replies.SentenceView.{SentenceView}
use Rattle.wiki_talk.specs.Statuses.{is_question}
use Rattle.articles.specs.declared.sentences.Sentence.{Sentence}
use Rattle.plain_wiki.specs.State.{Stored}
use Rattle.plain_wiki.specs.Meanings.{Meaning, stating, outside, asking, asking_outside, Means}
use Rattle.plain_wiki.specs.Knowledge.{Knows, live_names, Spending, Answer}

-- the canonical forms of words
abbrev pub spelled : Listed → List WordId → List (List ℕ)
spelled words ids = map (λ id. option_map_or (λ form. form) (canonical_form_of words.live id) []) ids

-- a meaning as it is told: axioms and classes in functional-style syntax, each word by its canonical form
abbrev pub told_meaning : Listed → Meaning → Meant
told_meaning words (stating claims) = Axioms (map (claim_text (canonical_form_of words.live)) claims)
told_meaning words (outside cause) = Outside cause
told_meaning words (asking concept) = Class (class_text (canonical_form_of words.live) concept)
told_meaning words (asking_outside cause) = Outside cause

-- the names that answer the question that the tokens are, and those of which that isn't known
pub record AreAnswersTo (IsSpent : Spending) (stored : Stored) (tokens answers unknown : List (List ℕ)) : Type 0 where
  pub concept : Concept
  pub means : Means stored.grammar stored.words tokens (asking concept)
  pub claims : List Claim
  pub known : Knows stored claims
  pub yes : List WordId
  pub doubtful : List WordId
  pub answer : Answer claims (live_names stored.words) IsSpent concept yes doubtful
  pub answers_told : answers ≡ spelled stored.words yes
  pub unknown_told : unknown ≡ spelled stored.words doubtful

-- no names are told
abbrev pub TellsNoName : SentenceView → Type 0
TellsNoName view = (view.answers ≡ []) × (view.unknown ≡ [])

-- a sentence as it is told: its status, its text, and, of a question for a class, its answers as of now
pub record TellsSentence (IsSpent : Spending) (stored : Stored) (sentence : Sentence) (view : SentenceView) : Type 0 where
  pub status : view.status ≡ sentence.status
  pub text : view.text ≡ shown stored.grammar.terminals sentence.tokens
  pub names : MatchBool (is_question sentence.status) (AreAnswersTo IsSpent stored sentence.tokens view.answers view.unknown) (TellsNoName view)

-- sentences as they are told, one after another
abbrev pub TellsSentences : Spending → Stored → List Sentence → List SentenceView → Type 0
TellsSentences IsSpent stored sentences views = AllZip (TellsSentence IsSpent stored) sentences views
