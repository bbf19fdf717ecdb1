-- A wiki with the model that it keeps.
use Rattle.std.specs.Prelude.{◌≡◌, ◌≤◌, ℕ, List, [], All, length}
use Rattle.wiki_base.specs.declared.tokens.TheConstants.{MOST_TOKENS}
use Rattle.codeco_terms.specs.GrammarParts.{GrammarParts}
use Rattle.logic_terms.specs.Concept.{Claim}
use Rattle.logic_terms.specs.Interpretation.{Interpretation}
use Rattle.reasoner.specs.Verdicts.{IsFiniteModel}
use Rattle.wiki_talk.specs.declared.statuses.Status.{Status}
use Rattle.wiki_talk.specs.declared.statuses.Status.TheVariants.{Asserted, Retracted, RedContradiction, RedBudget, Outside, Question, QuestionOutside}
use Rattle.articles.specs.declared.sentences.Sentence.{Sentence}
use Rattle.articles.specs.Articles.{AreInOrder}
use Rattle.plain_wiki.specs.State.{Stored, first_stored}
use Rattle.wiki_parts.specs.Sound.{IsSound}
use Rattle.plain_wiki.specs.Meanings.{Meaning, stating, outside, asking, asking_outside, Means, MeansFaithfully}
use Rattle.plain_wiki.specs.Knowledge.{sentences_in, Knows}

-- a wiki: what is stored, how many steps a search may take, and the interpretation that it keeps
pub record Holding : Type 0 where
  pub state : Stored
  pub budget : ℕ
  pub interpretation : Interpretation

-- the interpretation of one element, in which nothing holds
abbrev pub first_interpretation : Interpretation
first_interpretation = record { size = 1; names = []; classes = []; relations = [] }

-- the wiki without words, which knows nothing
abbrev pub first_holding : GrammarParts → ℕ → Holding
first_holding grammar budget = record { state = first_stored grammar; budget = budget; interpretation = first_interpretation }

-- the status is one that a sentence of this meaning may have
abbrev pub FitsMeaning : Status → Meaning → Type 0
FitsMeaning Asserted (stating claims) = Unit {0}
FitsMeaning Retracted (stating claims) = Unit {0}
FitsMeaning RedContradiction (stating claims) = Unit {0}
FitsMeaning RedBudget (stating claims) = Unit {0}
FitsMeaning (Outside cause) (outside other) = cause ≡ other
FitsMeaning Question (asking concept) = Unit {0}
FitsMeaning (QuestionOutside cause) (asking_outside other) = cause ≡ other
FitsMeaning _ _ = ⊥

-- a stored sentence: it has a derivation from the present words, what it means keeps its truth, and its status fits that
pub record IsStored (state : Stored) (sentence : Sentence) : Type 0 where
  pub meaning : Meaning
  pub means : Means state.grammar state.words sentence.tokens meaning
  pub faithful : MeansFaithfully state.grammar state.words sentence.tokens
  pub fits : FitsMeaning sentence.status meaning
  pub few : length sentence.tokens ≤ MOST_TOKENS

-- the articles stand in order of word number, each sentence is stored rightly, and the kept interpretation is a finite model of exactly
-- what the wiki knows
pub record IsKept (wiki : Holding) : Type 0 where
  pub sound : IsSound wiki.state
  pub in_order : AreInOrder wiki.state.articles
  pub stored : All (IsStored wiki.state) (sentences_in wiki.state.articles)
  pub claims : List Claim
  pub known : Knows wiki.state claims
  pub model : IsFiniteModel wiki.interpretation claims
