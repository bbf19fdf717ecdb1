-- What is said of the model that was kept before a step: no budget is told as spent where that model decides.
use Rattle.std.specs.Prelude.{◌≡◌, ℕ, List, All, IfSome, MatchBool, Option, Some, None}
use Rattle.std.specs.List.{AllZip}
use Rattle.wiki_base.specs.declared.numbers.WordId.{WordId}
use Rattle.logic_terms.specs.Concept.{Concept, Claim}
use Rattle.logic_terms.specs.Interpretation.{element_of}
use Rattle.logic_terms.specs.Reading.{IsIn, IsModel}
use Rattle.wiki_talk.specs.declared.statuses.Status.{Status}
use Rattle.wiki_talk.specs.declared.statuses.Status.TheVariants.{Asserted, RedBudget}
use Rattle.wiki_talk.specs.declared.replies.SentenceView.{SentenceView}
use Rattle.wiki_talk.specs.declared.replies.Reply.{Reply}
use Rattle.wiki_talk.specs.declared.replies.Reply.TheVariants as replies
use Rattle.wiki_talk.specs.Statuses.{is_question}
use Rattle.articles.specs.declared.sentences.Sentence.{Sentence}
use Rattle.plain_wiki.specs.State.{Stored}
use Rattle.plain_wiki.specs.Places.{article_named}
use Rattle.plain_wiki.specs.Meanings.{asking, Means}
use Rattle.plain_wiki.specs.Knowledge.{Knows}
use Rattle.plain_wiki.specs.Telling.{spelled}
use Rattle.plain_wiki.specs.Doing.{with_appended}
use Rattle.wiki_parts.specs.Holding.{Holding}

-- the status that a reply tells of a sentence that was judged
abbrev pub status_told : Reply → Option Status
status_told (replies.Add status shown) = Some status
status_told (replies.Edit status shown) = Some status
status_told (replies.Reassert status) = Some status
status_told (replies.Commit article status shown) = Some status
status_told reply = None

-- the kept interpretation is no model of what is known where this is stored
abbrev pub IsNoModelWith : Holding → Stored → Type 0
IsNoModelWith old taken = (claims : List Claim) → Knows taken claims → ¬ IsModel old.interpretation claims

-- a sentence that was judged is red for the budget only where the kept interpretation is no model of what is known with it
abbrev pub SpendsBeyond : Holding → Option Stored → Reply → Type 0
SpendsBeyond old taken reply = status_told reply ≡ Some RedBudget → IfSome taken (IsNoModelWith old)

-- the same of tokens at the end of a word's article
abbrev pub SpendsAtEnd : Holding → WordId → List (List ℕ) → Status → Type 0
SpendsAtEnd old word tokens status = status ≡ RedBudget → IsNoModelWith old (with_appended old.state word tokens Asserted)

-- the names that are told as unknown of the question that the tokens are, are in its class in the kept interpretation
pub record KeptHasDoubts (old : Holding) (tokens unknown : List (List ℕ)) : Type 0 where
  pub concept : Concept
  pub means : Means old.state.grammar old.state.words tokens (asking concept)
  pub doubtful : List WordId
  pub told : unknown ≡ spelled old.state.words doubtful
  pub there : All (λ name. IsIn old.interpretation concept (element_of old.interpretation name)) doubtful

-- where the sentence is a question that asks for a class, the names that are told as unknown are in it in the kept interpretation
abbrev pub KeptHasUnknown : Holding → Sentence → SentenceView → Type 0
KeptHasUnknown old sentence view = MatchBool (is_question sentence.status) (KeptHasDoubts old sentence.tokens view.unknown) (Unit {0})

-- so is each question of the article that a form names and that is told
abbrev pub KeptHasUnknownIn : Holding → List ℕ → Reply → Type 0
KeptHasUnknownIn old form (replies.Read told revision views) =
    IfSome (article_named old.state form) (λ article. AllZip (KeptHasUnknown old) article.sentences views)
KeptHasUnknownIn old form reply = Unit {0}
