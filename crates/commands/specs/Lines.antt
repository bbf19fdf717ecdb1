-- What lines ask of the wiki, and the lines that answer them.
use Rattle.std.specs.Prelude.{◌≡◌, ℕ, ◌≤◌, ◌⊎◌, List, length, take, map, Option, Some, None}
use Rattle.std.specs.Borrow.{Bor}
use Rattle.std.specs.Io.KnownBytes.{Keeps, Appends}
use Rattle.std.specs.List.{flat_map}
use Rattle.wiki_io.specs.Lines.{InputLine, text, too_long}
use Rattle.wiki_talk.specs.declared.requests.LineRequest.{LineRequest}
use Rattle.wiki_talk.specs.declared.replies.Reply.{Reply}
use Rattle.wiki_talk.specs.Turns.{Exchange, answered, no_request, request_in, Turn, Turns}
use Rattle.wire_json.specs.Requests.{line_request_of}
use Rattle.wire_json.specs.Replies.{reply_line, bad_request_line}
use Rattle.commands.specs.Wiki.{Recalling, KeptTurn}
use Rattle.command_line.specs.declared.command.Outcome.{Outcome}
use Rattle.command_line.specs.declared.command.Outcome.TheVariants.{WriteFault, Memory}

-- a line as it is handed on: none is one that is too long
abbrev pub line_handed : Option (Bor (List ℕ)) → InputLine
line_handed (Some line) = text line.now
line_handed None = too_long

-- what a line asks
abbrev pub asked : InputLine → Option LineRequest
asked (text bytes) = line_request_of bytes
asked too_long = None

-- the reply line of one turn
abbrev pub told : Exchange LineRequest Reply → List ℕ
told (answered request reply) = reply_line reply
told no_request = bad_request_line

-- the reply lines of turns, one after another
abbrev pub reply_lines : List (Exchange LineRequest Reply) → List ℕ
reply_lines exchanges = flat_map told exchanges

-- a line was stepped: one turn on what it asks
pub record StepsLine (old : Recalling) (line : InputLine) (exchange : Exchange LineRequest Reply) (new : Recalling) : Type 0 where
  pub asked_now : request_in exchange ≡ asked line
  pub turn : Turn KeptTurn old exchange new

-- lines were stepped: one run on what they ask
pub record StepsLines (first : Recalling) (lines : List InputLine) (exchanges : List (Exchange LineRequest Reply)) (last : Recalling) : Type 0 where
  pub asked_then : map request_in exchanges ≡ map asked lines
  pub turns : Turns KeptTurn first exchanges last

-- ---- one line

-- a line was stepped, and this is its reply line
pub record RepliesTo (old : Recalling) (line : InputLine) (new : Recalling) (reply : List ℕ) : Type 0 where
  pub exchange : Exchange LineRequest Reply
  pub steps : StepsLine old line exchange new
  pub is_told : reply ≡ told exchange

-- a line was stepped, and its reply line was written whole
pub record AnswersLine (old : Recalling) (line : InputLine) (taken : Option (List ℕ)) (new : Recalling) (taken_after : Option (List ℕ)) : Type 0 where
  pub reply : List ℕ
  pub replies : RepliesTo old line new reply
  pub written : Appends taken taken_after reply

-- a line was stepped, and a front part of its reply line was written
pub record BeginsAnswer (old : Recalling) (line : InputLine) (taken : Option (List ℕ)) (new : Recalling) (taken_after : Option (List ℕ)) : Type 0 where
  pub reply : List ℕ
  pub replies : RepliesTo old line new reply
  pub count : ℕ
  pub within : count ≤ length reply
  pub written : Appends taken taken_after (take count reply)

-- a line was stepped or not
abbrev pub WasStepped : Recalling → InputLine → Recalling → Type 0
WasStepped old line new = (new ≡ old) ⊎ ((exchange : Exchange LineRequest Reply) × StepsLine old line exchange new)

-- a line was stepped or not, and nothing was written
pub record GivesUpLine (old : Recalling) (line : InputLine) (taken : Option (List ℕ)) (new : Recalling) (taken_after : Option (List ℕ)) : Type 0 where
  pub state : WasStepped old line new
  pub written : Keeps taken taken_after

-- Why a line has no whole reply line: a write failed, and a front part of the reply line was written; or there was no memory, and nothing was
abbrev pub CutsLine : Outcome → Recalling → InputLine → Option (List ℕ) → Recalling → Option (List ℕ) → Type 0
CutsLine WriteFault old line taken new taken_after = BeginsAnswer old line taken new taken_after
CutsLine Memory old line taken new taken_after = GivesUpLine old line taken new taken_after
CutsLine outcome old line taken new taken_after = ⊥
