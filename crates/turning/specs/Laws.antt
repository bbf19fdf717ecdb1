-- What holds of runs of a wiki with a history: lines of an input, and then requests that came over connections.
use Rattle.std.specs.Prelude.{◌≡◌, ℕ, ◌++◌, ◌↔◌, Bool, true, false, List, [], ◌∷◌, map, All, Some}
use Rattle.std.specs.List.{flat_map}
use Rattle.wiki_base.specs.declared.numbers.WordId.{WordId}
use Rattle.codeco_terms.specs.GrammarParts.{GrammarParts}
use Rattle.logic_terms.specs.Concept.{Claim}
use Rattle.wiki_talk.specs.declared.requests.Request.{Request}
use Rattle.wiki_talk.specs.declared.requests.LineRequest.{LineRequest}
use Rattle.wiki_talk.specs.declared.requests.LineRequest.TheVariants as lines
use Rattle.wiki_talk.specs.declared.replies.Reply.{Reply}
use Rattle.wiki_talk.specs.declared.replies.Reply.TheVariants as replies
use Rattle.wiki_talk.specs.Turns.{Exchange, answered, no_request, Turns}
use Rattle.articles.specs.declared.sentences.Sentence.{Sentence}
use Rattle.articles.specs.declared.article.Article.{Article}
use Rattle.plain_wiki.specs.Knowledge.{Knows}
use Rattle.wiki_core.specs.Holding.{Holding, first_holding, IsKept}
use Rattle.wiki_core.specs.Stepping.{KeptStep}
use Rattle.wiki_core.specs.Apart.{heard_by, tokens_in}
use Rattle.wiki_core.specs.Journaled.{changes_of, GivesUnraised, SpendsNone, FitsLine}
use Rattle.wiki_core.specs.Journaled as core
use Rattle.turning.specs.Turning.{Recalling, without_history, article_changed, KeptTurn}

-- ---- runs

-- lines were turned, and then requests were stepped
pub record IsRun (first : Recalling) (of_lines : List (Exchange LineRequest Reply)) (more : List (Exchange Request Reply)) (last : Holding) : Type 0 where
  pub mid : Recalling
  pub turns : Turns KeptTurn first of_lines mid
  pub steps : Turns KeptStep mid.wiki more last

-- what was asked of the wiki itself; what was taken back or done again is no request on it
abbrev pub exchange_of : Exchange LineRequest Reply → Exchange Request Reply
exchange_of (answered (lines.Step request) reply) = answered request reply
exchange_of exchange = no_request

-- all that was asked of the wiki in a run
abbrev pub exchanges_of : List (Exchange LineRequest Reply) → List (Exchange Request Reply) → List (Exchange Request Reply)
exchanges_of of_lines more = map exchange_of of_lines ++ more

-- what lines asked, in order
abbrev pub asked_in : Exchange LineRequest Reply → List LineRequest
asked_in (answered request reply) = request ∷ []
asked_in no_request = []

abbrev pub asked_of : List (Exchange LineRequest Reply) → List LineRequest
asked_of exchanges = flat_map asked_in exchanges

-- A session's tokens are a function of the grammar that the wiki began with and of what the session heard: in any two runs from that grammar
-- on, whatever the budgets are, and whatever else was asked, taken back or done again, two sessions that heard the same have the same tokens.
abbrev pub TokensAreOwn : GrammarParts → Type 0
TokensAreOwn g =
    (budget its_budget : ℕ) (of_lines its_lines : List (Exchange LineRequest Reply)) (more its_more : List (Exchange Request Reply)) (last its_last : Holding)
    (number its_number : ℕ)
    → IsRun (without_history (first_holding g budget)) of_lines more last → IsRun (without_history (first_holding g its_budget)) its_lines its_more its_last
    → heard_by number (exchanges_of of_lines more) ≡ heard_by its_number (exchanges_of its_lines its_more)
    → tokens_in last.state number ≡ tokens_in its_last.state its_number

-- no grammar that is given in a run has a terminal that is another one with its first letter raised to upper case
abbrev pub GiveUnraised : List (Exchange LineRequest Reply) → List (Exchange Request Reply) → Type 0
GiveUnraised of_lines more = All GivesUnraised (core.asked_of (exchanges_of of_lines more))

-- What stands is what is read. Take any run, and turns that ask for all that its lines asked again, and then for the changes of its
-- requests. Where no grammar that is given has a terminal that is another one raised, and no reply of the two tells that a budget was spent,
-- the turns end with the grammar, the words, the last number of a word, the articles, their revisions, their sentences and statuses with
-- which the run ends.
abbrev pub StandsAgain : GrammarParts → Type 0
StandsAgain g =
    (budget its_budget : ℕ) (of_lines again : List (Exchange LineRequest Reply)) (more : List (Exchange Request Reply)) (last : Holding) (its_last : Recalling)
    → IsRun (without_history (first_holding g budget)) of_lines more last
    → Turns KeptTurn (without_history (first_holding g its_budget)) again its_last
    → asked_of again ≡ asked_of of_lines ++ map lines.Step (changes_of more)
    → GiveUnraised of_lines more
    → SpendsNone (exchanges_of of_lines more) → SpendsNone (map exchange_of again)
    → its_last.wiki.state.stored ≡ last.state.stored

-- Each change of a run's requests but for that of the grammar fits a short line, however long the text was that was sent.
abbrev pub ChangesFitLines : GrammarParts → Type 0
ChangesFitLines g =
    (budget : ℕ) (of_lines : List (Exchange LineRequest Reply)) (more : List (Exchange Request Reply)) (last : Holding)
    → IsRun (without_history (first_holding g budget)) of_lines more last → GiveUnraised of_lines more → All FitsLine (changes_of more)

-- ---- changes that are taken back

-- the reply is a refusal
abbrev pub is_refused : Reply → Bool
is_refused (replies.Refused refusal) = true
is_refused reply = false

-- a word with the sentences of its article
abbrev pub sentences_under : Article → WordId × List Sentence
sentences_under article = (article.word, article.sentences)

-- Two wikis with the same grammar and words, the same sentences with the same statuses in each article, the same knowledge, and the same
-- interpretation that is kept of it; revisions and sessions may differ.
pub record HaveTheSame (one other : Holding) : Type 0 where
  pub grammar : other.state.stored.grammar ≡ one.state.stored.grammar
  pub words : other.state.stored.words ≡ one.state.stored.words
  pub sentences : map sentences_under other.state.stored.articles ≡ map sentences_under one.state.stored.articles
  pub knowledge : (claims : List Claim) → Knows other.state.stored claims ↔ Knows one.state.stored claims
  pub interpretation : other.interpretation ≡ one.interpretation

-- of a wiki that keeps rightly: a done change of an article, and then `undo` where that isn't refused, give what there was
abbrev pub UndoGivesBack : Type 0
UndoGivesBack =
    (old changed new : Recalling) (request : Request) (word : WordId) (reply undone : Reply)
    → IsKept old.wiki → article_changed old.wiki.state request ≡ Some word → is_refused reply ≡ false → KeptTurn old (lines.Step request) reply changed
    → is_refused undone ≡ false → KeptTurn changed lines.Undo undone new → HaveTheSame old.wiki new.wiki

-- `undo` and then `redo`, where neither is refused, give what stood before the two
abbrev pub RedoGivesBack : Type 0
RedoGivesBack =
    (old undone new : Recalling) (reply redone : Reply) → IsKept old.wiki → is_refused reply ≡ false → KeptTurn old lines.Undo reply undone
    → is_refused redone ≡ false → KeptTurn undone lines.Redo redone new → HaveTheSame old.wiki new.wiki
