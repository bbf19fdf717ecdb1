-- A whole wiki with the model that it keeps.
use Rattle.std.specs.Prelude.{◌≡◌, ◌<◌, ◌≤◌, ℕ, List, All, AllPairs, Some, length}
use Rattle.wiki_base.specs.declared.tokens.TheConstants.{MOST_TOKENS}
use Rattle.codeco_terms.specs.GrammarParts.{GrammarParts}
use Rattle.derivation_trees.specs.Partial.{IsTypeable}
use Rattle.logic_terms.specs.Interpretation.{Interpretation}
use Rattle.wiki_talk.specs.declared.limits.TheConstants.{MOST_SESSIONS}
use Rattle.articles.specs.declared.article.Article.{Article}
use Rattle.articles.specs.Articles.{article_of}
use Rattle.plain_wiki.specs.Sessions.{PlainSession}
use Rattle.wiki_parts.specs.Holding as parts
use Rattle.plain_wiki.specs.State.{State, first_state}

-- a wiki: its state, how many steps a search may take, and the interpretation that it keeps
pub record Holding : Type 0 where
  pub state : State
  pub budget : ℕ
  pub interpretation : Interpretation

-- the wiki without words and sessions, which knows nothing
abbrev pub first_holding : GrammarParts → ℕ → Holding
first_holding grammar budget = record { state = first_state grammar; budget = budget; interpretation = parts.first_interpretation }

-- what is stored, with the interpretation that is kept
abbrev pub store_held : Holding → parts.Holding
store_held wiki = record { state = wiki.state.stored; budget = wiki.budget; interpretation = wiki.interpretation }

-- the session is on an article that is there, at a revision that the article has had
pub record IsOnArticle (articles : List Article) (session : PlainSession) : Type 0 where
  pub article : Article
  pub there : article_of articles session.article ≡ Some article
  pub seen : session.revision.0 ≤ article.revision.0

-- the sessions stand in order of their numbers, one for each number
abbrev pub AreInOrder : List PlainSession → Type 0
AreInOrder sessions = AllPairs (λ session later. session.number.0 < later.number.0) sessions

-- the session's tokens are typeable from the present words and not too many, and its article is that of a live word
pub record IsKeptSession (state : State) (session : PlainSession) : Type 0 where
  pub typeable : IsTypeable state.stored.grammar state.stored.words session.tokens
  pub short : length session.tokens ≤ MOST_TOKENS
  pub on : IsOnArticle state.stored.articles session

-- What is stored is kept rightly, and so is each session. They stand in order of their numbers, none of which is above the last
-- that was given, and there are so many at most.
pub record IsKept (wiki : Holding) : Type 0 where
  pub stored : parts.IsKept (store_held wiki)
  pub sessions : All (IsKeptSession wiki.state) wiki.state.sessions
  pub in_order : AreInOrder wiki.state.sessions
  pub numbered : All (λ session. session.number.0 ≤ wiki.state.last) wiki.state.sessions
  pub few : length wiki.state.sessions ≤ MOST_SESSIONS
