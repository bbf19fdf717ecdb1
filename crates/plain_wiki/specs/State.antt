-- The state of a plain wiki.
use Rattle.std.specs.Prelude.{ℕ, List, []}
use Rattle.codeco_terms.specs.GrammarParts.{GrammarParts}
use Rattle.lexicon.specs.Words.{Listed}
use Rattle.articles.specs.declared.article.Article.{Article}
use Rattle.plain_wiki.specs.Sessions.{PlainSession}

-- what is stored
pub record Stored : Type 0 where
  pub grammar : GrammarParts
  -- the live words, beside the terminals of the grammar, and the last number that was given to a word
  pub words : Listed
  -- the article of each live word, in order of word number
  pub articles : List Article

-- a wiki: what is stored, and who edits
pub record State : Type 0 where
  pub stored : Stored
  -- the sessions, in order of their numbers
  pub sessions : List PlainSession
  -- the last number that was given to a session
  pub last : ℕ

-- the wiki without words and sessions
abbrev pub first_stored : GrammarParts → Stored
first_stored grammar = record { grammar = grammar; words = record { live = []; terminals = grammar.terminals; last = 0 }; articles = [] }

abbrev pub first_state : GrammarParts → State
first_state grammar = record { stored = first_stored grammar; sessions = []; last = 0 }
