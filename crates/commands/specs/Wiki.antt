-- The wiki of the program, as one step of it is seen.
use Rattle.std.specs.Prelude.{ℕ}
use Rattle.ace_grammar.specs.Grammar.{ace_grammar}
use Rattle.wiki_core.specs.Holding as core
use Rattle.wiki_core.specs.Holding.{first_holding}
use Rattle.wiki_core.specs.Stepping as stepping
use Rattle.wiki_talk.specs.declared.requests.Request.{Request}
use Rattle.wiki_talk.specs.declared.requests.LineRequest.{LineRequest}
use Rattle.turning.specs.Turning as turning
use Rattle.turning.specs.Turning.{without_history}
use Rattle.wiki_talk.specs.declared.replies.Reply.{Reply}

-- what the wiki holds: the state of a plain wiki, and the interpretation that is kept
abbrev pub Holding : Type 0
Holding = core.Holding

-- the wiki that the program begins with, in which a search may take so many steps
abbrev pub ace_wiki : ℕ → Holding
ace_wiki budget = first_holding ace_grammar budget

-- one step of it: the plain wiki's, with what is kept
abbrev pub KeptStep : Holding → Request → Reply → Holding → Type 0
KeptStep = stepping.KeptStep

-- what the wiki holds beside its history: what stood before the changes of sentences that can be taken back, and before those that were
abbrev pub Recalling : Type 0
Recalling = turning.Recalling

-- the wiki that the program begins with, without a history
abbrev pub new_wiki : ℕ → Recalling
new_wiki budget = without_history (ace_wiki budget)

-- one turn of it for a line: a step, or a change that is taken back or done again
abbrev pub KeptTurn : Recalling → LineRequest → Reply → Recalling → Type 0
KeptTurn = turning.KeptTurn
