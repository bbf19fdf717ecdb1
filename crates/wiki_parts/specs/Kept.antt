-- What the program keeps of all sentences.
use Rattle.std.specs.Prelude.{◌≡◌, ◌≤◌, ℕ, ◌++◌, List, [], ◌∷◌, ◌+◌, length, map, take, drop, slice_get, unwrap_or, Some, All, if◌then◌else◌}
use Rattle.std.specs.Option.{option_map_or}
use Rattle.wiki_base.specs.declared.tokens.TheConstants.{MOST_TOKENS}
use Rattle.wiki_base.specs.declared.numbers.WordId.{WordId}
use Rattle.codeco_terms.specs.GrammarParts.{GrammarParts}
use Rattle.lexicon.specs.Words.{Listed}
use Rattle.logic_terms.specs.Concept.{Claim}
use Rattle.owl_eval.specs.declared.checked.CheckedModel.{CheckedModel}
use Rattle.owl_eval.specs.Checked.{kept_claims}
use Rattle.wiki_talk.specs.declared.limits.TheConstants.{MOST_SENTENCES}
use Rattle.wiki_talk.specs.declared.statuses.Status.{Status}
use Rattle.wiki_talk.specs.declared.statuses.Status.TheVariants.{Asserted, Outside, Question, QuestionOutside}
use Rattle.articles.specs.declared.sentences.Sentence.{Sentence}
use Rattle.articles.specs.declared.article.Article.{Article}
use Rattle.wiki_parts.specs.declared.meanings.Sense.{Sense}
use Rattle.plain_wiki.specs.Meanings.{Meaning, stating, outside, asking, asking_outside, Means}
use Rattle.plain_wiki.specs.Knowledge.{is_asserted, sentences_in, IsAllowed}
use Rattle.plain_wiki.specs.State.{Stored}
use Rattle.wiki_parts.specs.Sound.{IsSound}
use Rattle.wiki_parts.specs.Spending.{IsCutOff}
use Rattle.wiki_parts.specs.Holding.{FitsMeaning}
use Rattle.wiki_parts.specs.Found.{meaning_shown}

-- the axioms that a meaning states
abbrev pub stated_by : Meaning → List Claim
stated_by (stating claims) = claims
stated_by _ = []

-- the axioms of those of the sentences that are asserted, where they have these meanings
abbrev pub known_of : List Sentence → List Meaning → List Claim
known_of [] meanings = []
known_of (sentence ∷ sentences) [] = []
known_of (sentence ∷ sentences) (meaning ∷ meanings) =
    (if is_asserted sentence.status then stated_by meaning else []) ++ known_of sentences meanings

-- the meanings that are kept
abbrev pub meanings_in : List Sense → List Meaning
meanings_in senses = map meaning_shown senses

-- each of the sentences has its meaning, and a status that fits it
abbrev pub MeanEach : GrammarParts → Listed → List Sentence → List Meaning → Type 0
MeanEach g words [] [] = Unit {0}
MeanEach g words [] (meaning ∷ meanings) = ⊥
MeanEach g words (sentence ∷ sentences) [] = ⊥
MeanEach g words (sentence ∷ sentences) (meaning ∷ meanings) =
    (Means g words sentence.tokens meaning × FitsMeaning sentence.status meaning) × MeanEach g words sentences meanings

-- the same of each article in turn
abbrev pub MeanInEach : GrammarParts → Listed → List Article → List (List Sense) → Type 0
MeanInEach g words [] [] = Unit {0}
MeanInEach g words [] (senses ∷ others) = ⊥
MeanInEach g words (article ∷ articles) [] = ⊥
MeanInEach g words (article ∷ articles) (senses ∷ others) =
    MeanEach g words article.sentences (meanings_in senses) × MeanInEach g words articles others

-- the axioms of the asserted sentences of articles
abbrev pub known_in : List Article → List (List Sense) → List Claim
known_in [] senses = []
known_in (article ∷ articles) [] = []
known_in (article ∷ articles) (senses ∷ others) = known_of article.sentences (meanings_in senses) ++ known_in articles others

-- the sentences of the article at a place, and the meanings that are kept of them
abbrev pub sentences_of : List Article → ℕ → List Sentence
sentences_of articles place = option_map_or (λ article. article.sentences) (slice_get articles place) []

abbrev pub senses_of : List (List Sense) → ℕ → List Sense
senses_of senses place = unwrap_or (slice_get senses place) []

-- What is known with these axioms in place of those of some sentences of the article at a place: the ones from a place of it to
-- before another.
abbrev pub known_around : List Article → List (List Sense) → ℕ → ℕ → List Claim → ℕ → List Claim
known_around articles senses place from own to =
    known_in (take place articles) (take place senses) ++ known_of (take from (sentences_of articles place)) (meanings_in (take from (senses_of senses place)))
    ++ own ++ known_of (drop to (sentences_of articles place)) (meanings_in (drop to (senses_of senses place)))
    ++ known_in (drop (place + 1) articles) (drop (place + 1) senses)

-- there is an article at the place, as many meanings are kept of it as it has sentences, and it has those places
pub record IsAround (articles : List Article) (senses : List (List Sense)) (place from to : ℕ) : Type 0 where
  pub article : Article
  pub here : slice_get articles place ≡ Some article
  pub own : List Sense
  pub meant : slice_get senses place ≡ Some own
  pub many : length own ≡ length article.sentences
  pub rises : from ≤ to
  pub within : to ≤ length article.sentences

-- The status of a sentence with this meaning, where these are all axioms, its own among them.
abbrev pub Stands : List Claim → List WordId → ℕ → Meaning → Status → Type 0
Stands claims names budget (stating []) status = status ≡ Asserted
Stands claims names budget (stating (claim ∷ own)) status = IsAllowed claims names (IsCutOff budget) status
Stands claims names budget (outside cause) status = status ≡ Outside cause
Stands claims names budget (asking concept) status = status ≡ Question
Stands claims names budget (asking_outside cause) status = status ≡ QuestionOutside cause

-- What the program keeps beside a state: the meaning of each sentence, and a model of the axioms that are known. Each sentence
-- is one of so many tokens at most, and there are so many sentences at most.
pub record IsKeeping (state : Stored) (senses : List (List Sense)) (model : CheckedModel) : Type 0 where
  pub sound : IsSound state
  pub mean : MeanInEach state.grammar state.words state.articles senses
  pub known : kept_claims model ≡ known_in state.articles senses
  pub short : All (λ sentence. length sentence.tokens ≤ MOST_TOKENS) (sentences_in state.articles)
  pub few : length (sentences_in state.articles) ≤ MOST_SENTENCES
