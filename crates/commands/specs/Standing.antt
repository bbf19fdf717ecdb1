-- What stands is what is read: the former input and the journal behind it lead to the wiki that stands.
use Rattle.std.specs.Prelude.{◌≡◌, ℕ, ◌≤◌, List, ◌++◌, All, length, map}
use Rattle.std.specs.List.{flat_map}
use Rattle.wiki_io.specs.Lines.{input_lines}
use Rattle.wiki_talk.specs.declared.requests.LineRequest.{LineRequest}
use Rattle.wiki_talk.specs.declared.replies.Reply.{Reply}
use Rattle.wiki_talk.specs.Turns.{Exchange, request_in, Turns}
use Rattle.wire_json.specs.Told.{ended, most_for}
use Rattle.serving.specs.Handling.{Handling, replied, exchange_in, journal_in, CameInLine}
use Rattle.wiki_core.specs.Journaled.{SpendsNone}
use Rattle.turning.specs.Laws.{IsRun, GiveUnraised, exchange_of, exchanges_of}
use Rattle.commands.specs.Lines.{asked}
use Rattle.commands.specs.Wiki.{Holding, Recalling, KeptTurn, new_wiki}

-- Take any run: turns for what the lines of an input ask, and then steps for what came over connections, each grammar in a line. And take any
-- turns, whatever their budget, for what the same input asks, its last line ended, and the journal behind it. Where no grammar that is given
-- has a terminal that is another one raised, and no reply of the two tells that a budget was spent, the second one ends with the grammar, the
-- words, the last number of a word, the articles, their revisions, their sentences and statuses with which the first one ends.
abbrev pub StandsAsRead : Type 0
StandsAsRead =
    (budget its_budget : ℕ) (former : List ℕ) (of_lines again : List (Exchange LineRequest Reply)) (handlings : List Handling) (last : Holding)
    (its_last : Recalling)
    → map request_in of_lines ≡ map asked (input_lines former)
    → IsRun (new_wiki budget) of_lines (flat_map exchange_in handlings) last
    → All CameInLine handlings → GiveUnraised of_lines (flat_map exchange_in handlings)
    → map request_in again ≡ map asked (input_lines (ended former ++ flat_map journal_in handlings))
    → Turns KeptTurn (new_wiki its_budget) again its_last
    → SpendsNone (exchanges_of of_lines (flat_map exchange_in handlings)) → SpendsNone (map exchange_of again)
    → its_last.wiki.state.stored ≡ last.state.stored

-- the most bytes that an event may write to the journal: those of the line of what was asked
abbrev pub most_written : Handling → ℕ
most_written (replied n request next reply) = most_for request
most_written handling = 0

-- In each such run what an event writes to the journal has at most `most_line` bytes, however long the text was that was sent; but for a
-- grammar, which has the bytes of a line at most.
abbrev pub WritesShortLines : Type 0
WritesShortLines =
    (budget : ℕ) (of_lines : List (Exchange LineRequest Reply)) (handlings : List Handling) (last : Holding)
    → IsRun (new_wiki budget) of_lines (flat_map exchange_in handlings) last
    → All CameInLine handlings → GiveUnraised of_lines (flat_map exchange_in handlings)
    → All (λ handling. length (journal_in handling) ≤ most_written handling) handlings
