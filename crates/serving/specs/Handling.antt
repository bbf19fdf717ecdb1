-- What one event on a connection comes to, at a server and a machine that answers requests.
use Rattle.std.specs.Prelude.{ℕ, List, [], ◌∷◌, IsTrue}
use Rattle.wiki_talk.specs.declared.requests.Request.{Request}
use Rattle.wiki_talk.specs.declared.replies.Reply.{Reply}
use Rattle.wiki_talk.specs.Turns.{Exchange, answered}
use Rattle.wire_json.specs.Told.{gives_line}
use Rattle.http_front.specs.declared.seen.Then.{Then}
use Rattle.server.specs.declared.turns.Turn.{Turn}
use Rattle.server.specs.declared.turns.Turn.TheVariants as turns
use Rattle.server.specs.Responses.{response_of}
use Rattle.serving.specs.Journal.{journal_line}

-- nothing; a response of the program's own on a connection, for which the machine isn't asked; or a request that came over a
-- connection, with the machine's reply
pub data Handling : Type 0 where
  waited : Handling
  own_answer : ℕ → List ℕ → Handling
  replied : ℕ → Request → Then → Reply → Handling

-- the turn of the server
abbrev pub turn_in : Handling → Turn
turn_in waited = turns.Wait
turn_in (own_answer n response) = turns.Own n response
turn_in (replied n request then reply) = turns.Ask n request then

-- what the machine is asked, with its reply
abbrev pub exchange_in : Handling → List (Exchange Request Reply)
exchange_in waited = []
exchange_in (own_answer n response) = []
exchange_in (replied n request then reply) = answered request reply ∷ []

-- what is written to the journal
abbrev pub journal_in : Handling → List ℕ
journal_in waited = []
journal_in (own_answer n response) = []
journal_in (replied n request then reply) = journal_line request reply

-- if what came over the connection is a grammar, its line isn't too long
abbrev pub CameInLine : Handling → Type 0
CameInLine (replied n request then reply) = IsTrue (gives_line request)
CameInLine handling = Unit {0}

-- the response, with the number of its connection
abbrev pub response_in : Handling → List (ℕ × List ℕ)
response_in waited = []
response_in (own_answer n response) = (n, response) ∷ []
response_in (replied n request then reply) = (n, response_of then reply) ∷ []
