-- The theorem of the program: what it does, command by command.
use Rattle.std.specs.Prelude.{◌≡◌, ◌≢◌, ◌↔◌, ◌⊎◌, ℕ, ◌-◌, ◌<◌, ◌≤◌, Bool, IsTrue, List, [], ◌∷◌, ◌++◌, length, take, map, All, Option, Some, None, IfSome, ⊤}
use Rattle.std.specs.List.{flat_map}
use Rattle.std.specs.Io.KnownBytes.{Consumes, Appends, IsAtEnd}
use Rattle.wiki_io.specs.declared.limits.TheConstants.{MAX_INPUT}
use Rattle.wiki_io.specs.declared.links.Event.{Event}
use Rattle.wiki_io.specs.Faults.{Rose}
use Rattle.wiki_io.specs.Lines.{InputLine, input_lines, Begins, AreKnown, AreReadLines}
use Rattle.wiki_io.specs.Link.{with_more, sent_on, IsOver}
use Rattle.wiki_talk.specs.declared.requests.LineRequest.{LineRequest}
use Rattle.wiki_talk.specs.declared.replies.Reply.{Reply}
use Rattle.wiki_talk.specs.Turns.{Exchange, request_in}
use Rattle.server.specs.Kept.{Kept}
use Rattle.server.specs.Runs.{TakesAll, AreOwn}
use Rattle.serving.specs.Handling.{Handling, turn_in, exchange_in, journal_in, response_in, CameInLine}
use Rattle.serving.specs.Delivering.{Delivers}
use Rattle.serving.specs.Events.{Outside, WasHandled, CutsJournal}
use Rattle.making.specs.declared.making.Made.TheVariants as made
use Rattle.making.specs.Making.{Makes}
use Rattle.turning.specs.Laws.{IsRun, TokensAreOwn, UndoGivesBack, RedoGivesBack}
use Rattle.command_line.specs.declared.command.Outcome.{Outcome}
use Rattle.command_line.specs.declared.command.Outcome.TheVariants.{Done, Usage, ReadFault, WriteFault, LinkFault, TooMuch, Memory}
use Rattle.owl_reader.specs.declared.faults.OwlFault.{OwlFault}
use Rattle.owl_reader.specs.declared.faults.OwlFault.TheVariants as fault
use Rattle.owl_grammar.specs.Faults.{IsFault}
use Rattle.owl_intake.specs.declared.input.TheConstants.{MOST_BYTES}
use Rattle.owl_intake.specs.Checked.{TellsCheck, fault_line}
use Rattle.owl_import.specs.Imported.{Imports}
use Rattle.retelling.specs.Files.{TellsFile}
use Rattle.retelling.specs.Saying.{SaysAll}
use Rattle.retelling.specs.Why.{TellsWhy}
use Rattle.command_line.specs.Command.{Asked, replay, serve, make, help, say, export, check, import, why, command_of, status_of, words_of, help_text}
use Rattle.commands.specs.Completeness.{DoesWhatIsFree}
use Rattle.commands.specs.Standing.{StandsAsRead, WritesShortLines}
use Rattle.commands.specs.Lines.{asked, StepsLines, reply_lines}
use Rattle.commands.specs.Wiki.{Holding, Recalling, KeptStep, ace_wiki, new_wiki}

-- ---- what is outside

-- a source or a sink: itself; the bytes that a source has left or that a sink has taken, where it tells them; and how often it failed
pub record Stream (X : Type 0) : Type 0 where
  pub itself : X
  pub bytes : Option (List ℕ)
  pub faults : ℕ

abbrev pub stream : {X : Type 0} → (X → Option (List ℕ)) → (X → ℕ) → X → Stream X
stream bytes faults itself = record { itself = itself; bytes = bytes itself; faults = faults itself }

-- a link: itself; whether it listens at an address; the events that it has handed in, those that are left, and what it has taken to be
-- sent, where it tells them; and how often it failed, sends apart
pub record Network (X : Type 0) : Type 0 where
  pub itself : X
  pub listens_at : List ℕ → Bool
  pub handed : Option (List Event)
  pub coming : Option (List Event)
  pub sent : Option (List (ℕ × List ℕ))
  pub faults : ℕ
  pub send_faults : ℕ

abbrev pub network : {X : Type 0} → (X → List ℕ → Bool) → (X → Option (List Event)) → (X → Option (List Event)) → (X → Option (List (ℕ × List ℕ)))
    → (X → ℕ) → (X → ℕ) → X → Network X
network listens_at handed coming sent faults send_faults itself = record {
  itself = itself;
  listens_at = listens_at itself;
  handed = handed itself;
  coming = coming itself;
  sent = sent itself;
  faults = faults itself;
  send_faults = send_faults itself;
}

-- what a command works with; standard error is written only when it has ended
pub record World (S K L : Type 0) : Type 0 where
  pub input : Stream S
  pub output : Stream K
  pub link : Network L

-- the journal, which is the output, and what was sent
abbrev pub outside_of : {S K L : Type 0} → World S K L → Outside
outside_of world = record { journal = world.output.bytes; sent = world.link.sent; send_faults = world.link.send_faults }

-- ---- the lines of the input

-- How reading ends: at the end of the input, behind all of its lines; where a read failed, behind each whole line that was read (a last
-- one may be too long already); where more than `MAX_INPUT` bytes were read; or before, for a write that failed or for want of memory.
abbrev pub EndsReading : Outcome → List ℕ → Option (List ℕ) → List InputLine → Type 0
EndsReading Done read left lines = IsAtEnd left × (length read ≤ MAX_INPUT) × (lines ≡ input_lines read)
EndsReading ReadFault read left lines = AreReadLines read lines
EndsReading TooMuch read left lines = MAX_INPUT < length read
EndsReading WriteFault read left lines = ⊤
EndsReading Memory read left lines = ⊤
EndsReading outcome read left lines = ⊥

-- These lines were read, and reading ended so. They are known from the bytes that were read, whatever follows; at the end of an input
-- that tells its bytes they are all of its lines.
pub record ReadsLines (left : Option (List ℕ)) (outcome : Outcome) (left_after : Option (List ℕ)) (lines : List InputLine) : Type 0 where
  pub read : List ℕ
  pub source : Consumes left left_after read
  pub known : AreKnown read left_after lines
  pub ends : EndsReading outcome read left_after lines
  pub all : outcome ≡ Done → (bytes : List ℕ) → left ≡ Some bytes → lines ≡ input_lines bytes

-- all turns but the last
abbrev pub but_last : List (Exchange LineRequest Reply) → List (Exchange LineRequest Reply)
but_last exchanges = take (length exchanges - 1) exchanges

-- `replay`: the lines that were read were turned in one run of the plain wiki with its history. What was written is a front of their reply lines, and
-- lacks no other than the last; it lacks none, unless a write failed or there was no memory.
pub record Replays (first : Recalling) (left taken : Option (List ℕ)) (outcome : Outcome) (left_after taken_after : Option (List ℕ)) : Type 0 where
  pub lines : List InputLine
  pub reads : ReadsLines left outcome left_after lines
  pub exchanges : List (Exchange LineRequest Reply)
  pub last : Recalling
  pub steps : StepsLines first lines exchanges last
  pub written : List ℕ
  pub sink : Appends taken taken_after written
  pub front : Begins written (reply_lines exchanges)
  pub whole : Begins (reply_lines (but_last exchanges)) written
  pub all : outcome ≢ WriteFault → outcome ≢ Memory → written ≡ reply_lines exchanges

-- ---- the headline

-- For every list of events, that is, for every interleaving of pieces that arrive on any connections, the bytes answered are
-- a plain wiki's: there is one run of the plain wiki over what the lines of the input ask, with its history, and then what the events ask,
-- in order. By each of its steps every stored sentence has a derivation by the present grammar from the present words, every menu lists exactly the
-- tokens that continue a partial derivation, the axioms of the asserted sentences are those that they mean and have the kept
-- interpretation as a finite model, and a sentence that means axioms is red only where no finite interpretation is a model with
-- them, or a budget is spent. What a connection asks is told by its own bytes alone, however they were cut, and what a session
-- holds by what that session heard. The journal is the lines of the accepted changes, and each grammar that came has its line. On each connection's number the
-- responses to its replies are sent, opening after opening, each whole where no send failed. Among them are sent the refusals of
-- bytes that ask nothing and the files of the editor page: these are no replies, and the plain wiki has no step for them.
pub record AnswersAsPlainWiki (first : Recalling) (lines : List InputLine) (outside : Outside) (events : List Event) (outside_after : Outside) : Type 0 where
  pub of_lines : List (Exchange LineRequest Reply)
  pub asked_then : map request_in of_lines ≡ map asked lines
  pub handlings : List Handling
  pub kept : List Kept
  pub turns : TakesAll [] events (map turn_in handlings) kept
  pub own : AreOwn [] events (map turn_in handlings)
  pub last : Holding
  pub run : IsRun first of_lines (flat_map exchange_in handlings) last
  pub in_lines : All CameInLine handlings
  pub tokens : TokensAreOwn first.wiki.state.stored.grammar
  pub journal : Appends outside.journal outside_after.journal (flat_map journal_in handlings)
  pub responses : Delivers (flat_map response_in handlings) outside.sent outside.send_faults outside_after.sent outside_after.send_faults
  pub whole : ¬ Rose outside.send_faults outside_after.send_faults → (n : ℕ) (sent sent_after : List (ℕ × List ℕ)) → outside.sent ≡ Some sent
      → outside_after.sent ≡ Some sent_after
      → sent_on n sent_after ≡ sent_on n sent ++ sent_on n (flat_map response_in handlings)

-- What came of the events behind those that were answered. There is none; or there is one that a fault ended, and nothing was sent for
-- it: where a write failed, the plain wiki has done its step for it, and of the journal's line a front was written; where there was no
-- memory, the step was done or not, and nothing was written.
abbrev pub EndsAt : Outcome → Holding → List Kept → List Event → Outside → Outside → Type 0
EndsAt WriteFault old kept [] outside outside_after = ⊥
EndsAt WriteFault old kept (event ∷ []) outside outside_after =
    (new : Holding) × (kept_after : List Kept) × CutsJournal KeptStep old kept event outside.journal new kept_after outside_after.journal
    × (outside_after.sent ≡ outside.sent) × (outside_after.send_faults ≡ outside.send_faults)
EndsAt Memory old kept (event ∷ []) outside outside_after =
    ((new : Holding) × WasHandled KeptStep old kept event new) × (outside_after ≡ outside)
EndsAt outcome old kept [] outside outside_after = outside_after ≡ outside
EndsAt outcome old kept (event ∷ more) outside outside_after = ⊥

-- no event was handed in, and neither the output nor the link was touched
abbrev pub IsUntouched : {S K L : Type 0} → List Event → World S K L → World S K L → Type 0
IsUntouched events before after = (events ≡ []) × (after.output ≡ before.output) × (after.link ≡ before.link)

-- the link listens at the address
abbrev pub ListensAt : {L : Type 0} → List ℕ → Network L → Type 0
ListensAt address link = IsTrue (link.listens_at address)

-- no event was handed in, and nothing was written or sent
abbrev pub ReachesNobody : {S K L : Type 0} → List Event → World S K L → World S K L → Type 0
ReachesNobody events before after = (events ≡ []) × (outside_of after ≡ outside_of before)

-- How serving ends where reading ended so: with reading, and nothing was touched; or behind all lines of the input. Then the link listens
-- at the address, unless it could not and nobody was reached; and it is done only where the link is over, or as many events were handled
-- as there are to be.
abbrev pub EndsServing : {S K L : Type 0} → Outcome → Outcome → List ℕ → List Event → ℕ → World S K L → World S K L → Type 0
EndsServing Done Done address events most before after = ListensAt address after.link × (IsOver after.link.coming ⊎ (length events ≡ most))
EndsServing Done WriteFault address events most before after = ListensAt address after.link
EndsServing Done LinkFault address events most before after = ListensAt address after.link ⊎ ReachesNobody events before after
EndsServing Done Memory address events most before after = ListensAt address after.link
EndsServing ReadFault ReadFault address events most before after = IsUntouched events before after
EndsServing TooMuch TooMuch address events most before after = IsUntouched events before after
EndsServing Memory Memory address events most before after = IsUntouched events before after
EndsServing read_so outcome address events most before after = ⊥

-- `serve`: lines of the input were read, and where these were all, the link was to listen at the address, and events were handed in, at
-- most so many. The bytes answered to all of them, or to all but a last one that a fault ended, are those of a plain wiki that began with
-- the lines.
pub record Serves {S K L : Type 0} (first : Recalling) (address : List ℕ) (most : ℕ) (outcome : Outcome) (before after : World S K L) : Type 0 where
  pub read_so : Outcome
  pub lines : List InputLine
  pub reads : ReadsLines before.input.bytes read_so after.input.bytes lines
  pub events : List Event
  pub are_handed : after.link.handed ≡ with_more before.link.handed events
  pub few : length events ≤ most
  pub answered : List Event
  pub last_event : List Event
  pub each : events ≡ answered ++ last_event
  pub outside_then : Outside
  pub answers : AnswersAsPlainWiki first lines (outside_of before) answered outside_then
  pub at_last : EndsAt outcome answers.last answers.kept last_event outside_then (outside_of after)
  pub ends : EndsServing read_so outcome address events most before after

-- ---- the other commands

-- `make`: the summary of a run of the plain wiki over the generated requests, the last of which read each article, was written; a front
-- of it where a write failed; and nothing where there was no memory.
abbrev pub MakesSummary : Holding → ℕ → ℕ → Option (List ℕ) → Outcome → Option (List ℕ) → Type 0
MakesSummary first count seed taken Done taken_after = Makes KeptStep first count seed taken made.Done taken_after
MakesSummary first count seed taken WriteFault taken_after = Makes KeptStep first count seed taken made.WriteFault taken_after
MakesSummary first count seed taken Memory taken_after = Makes KeptStep first count seed taken made.Memory taken_after
MakesSummary first count seed taken outcome taken_after = ⊥

-- `help`: its lines were written, or a front of them where a write failed
abbrev pub WritesHelp : Outcome → Option (List ℕ) → Option (List ℕ) → Type 0
WritesHelp Done taken taken_after = Appends taken taken_after help_text
WritesHelp WriteFault taken taken_after = (n : ℕ) × (n ≤ length help_text) × Appends taken taken_after (take n help_text)
WritesHelp outcome taken taken_after = ⊥

-- How a command ends that writes a text about the wiki behind the lines of the input, where reading ended so: the text was written; a
-- front of it where a write failed; and nothing where there was no memory, or reading ended before.
abbrev pub EndsRetelling : (List ℕ → Type 0) → Outcome → Outcome → Option (List ℕ) → Option (List ℕ) → Type 0
EndsRetelling IsText Done Done taken taken_after = (text : List ℕ) × IsText text × Appends taken taken_after text
EndsRetelling IsText Done WriteFault taken taken_after =
    (text : List ℕ) × IsText text × ((n : ℕ) × (n ≤ length text) × Appends taken taken_after (take n text))
EndsRetelling IsText Done Memory taken taken_after = Appends taken taken_after []
EndsRetelling IsText ReadFault ReadFault taken taken_after = Appends taken taken_after []
EndsRetelling IsText TooMuch TooMuch taken taken_after = Appends taken taken_after []
EndsRetelling IsText Memory Memory taken taken_after = Appends taken taken_after []
EndsRetelling IsText read_so outcome taken taken_after = ⊥

-- `say`, `export` and `why`: the lines that were read were stepped in one run of the plain wiki, and a text about the wiki as that leaves it was
-- written.
pub record Retells (IsText : Holding → List ℕ → Type 0) (first : Recalling) (left taken : Option (List ℕ)) (outcome : Outcome)
    (left_after taken_after : Option (List ℕ)) : Type 0 where
  pub read_so : Outcome
  pub lines : List InputLine
  pub reads : ReadsLines left read_so left_after lines
  pub exchanges : List (Exchange LineRequest Reply)
  pub last : Recalling
  pub steps : StepsLines first lines exchanges last
  pub ends : EndsRetelling (IsText last.wiki) read_so outcome taken taken_after

-- `say`: the lines of all that the wiki knows
abbrev pub IsSaid : Holding → List ℕ → Type 0
IsSaid wiki text = SaysAll wiki.state.stored text

-- `export`: the file of the words and of all that the wiki knows
abbrev pub IsFile : Holding → List ℕ → Type 0
IsFile wiki text = TellsFile wiki.state.stored text

-- `why`: what is told of the sentence at a place of an article, or of that and a name
abbrev pub IsWhy : ℕ → List ℕ → ℕ → Option (List ℕ) → Holding → List ℕ → Type 0
IsWhy budget article at name wiki text = TellsWhy wiki.state.stored budget article at name text

-- ---- files

-- How a command ends that reads the input as a file and writes a text about it: at the end of a file of at most `MOST_BYTES` bytes the
-- text was written, or a front of it where a write failed. Nothing was written where a read failed before, where one byte more was
-- read, or where there was no memory.
abbrev pub EndsOnFile : (List ℕ → List ℕ → Type 0) → Outcome → List ℕ → Option (List ℕ) → Option (List ℕ) → Option (List ℕ) → Type 0
EndsOnFile IsText Done read left taken taken_after =
    IsAtEnd left × (length read ≤ MOST_BYTES) × ((text : List ℕ) × IsText read text × Appends taken taken_after text)
EndsOnFile IsText WriteFault read left taken taken_after =
    IsAtEnd left × (length read ≤ MOST_BYTES)
    × ((text : List ℕ) × IsText read text × ((n : ℕ) × (n ≤ length text) × Appends taken taken_after (take n text)))
EndsOnFile IsText ReadFault read left taken taken_after = (length read ≤ MOST_BYTES) × Appends taken taken_after []
EndsOnFile IsText TooMuch read left taken taken_after = (MOST_BYTES < length read) × Appends taken taken_after []
EndsOnFile IsText Memory read left taken taken_after = (length read ≤ MOST_BYTES) × Appends taken taken_after []
EndsOnFile IsText outcome read left taken taken_after = ⊥

-- `check` and `import`: bytes of the input were read as a file, and a text about it was written
pub record TellsOfFile (IsText : List ℕ → List ℕ → Type 0) (left taken : Option (List ℕ)) (outcome : Outcome)
    (left_after taken_after : Option (List ℕ)) : Type 0 where
  pub read : List ℕ
  pub source : Consumes left left_after read
  pub ends : EndsOnFile IsText outcome read left_after taken taken_after

-- What is told of a text that is to become a wiki. Of a file, by the grammar of files, the requests that make a wiki of it are written, and a
-- line for each axiom that is left out is remarked; else nothing is written, and the fault of its first token that has one is remarked.
abbrev pub TellsImport : List ℕ → List ℕ → List ℕ → Type 0
TellsImport remarks text requests =
    Imports text requests remarks ⊎ ((f : OwlFault) × (f ≢ fault.Memory) × IsFault text f × (requests ≡ []) × (remarks ≡ fault_line f))

-- ---- the program

-- what was done for a command up to an outcome, with these remarks; where the words are none, nothing was read, written or sent
abbrev pub Does : {S K L : Type 0} → Option Asked → Outcome → List ℕ → World S K L → World S K L → Type 0
Does None outcome remarks before after = (outcome ≡ Usage) × (after ≡ before)
Does (Some (replay budget)) outcome remarks before after =
    Replays (new_wiki budget) before.input.bytes before.output.bytes outcome after.input.bytes after.output.bytes × (after.link ≡ before.link)
Does (Some (serve address budget most)) outcome remarks before after = Serves (new_wiki budget) address most outcome before after
Does (Some (make count seed budget)) outcome remarks before after =
    MakesSummary (ace_wiki budget) count seed before.output.bytes outcome after.output.bytes × (after.input ≡ before.input) × (after.link ≡ before.link)
Does (Some help) outcome remarks before after =
    WritesHelp outcome before.output.bytes after.output.bytes × (after.input ≡ before.input) × (after.link ≡ before.link)
Does (Some (say budget)) outcome remarks before after =
    Retells IsSaid (new_wiki budget) before.input.bytes before.output.bytes outcome after.input.bytes after.output.bytes × (after.link ≡ before.link)
Does (Some (export budget)) outcome remarks before after =
    Retells IsFile (new_wiki budget) before.input.bytes before.output.bytes outcome after.input.bytes after.output.bytes × (after.link ≡ before.link)
Does (Some (check budget)) outcome remarks before after =
    TellsOfFile (TellsCheck budget) before.input.bytes before.output.bytes outcome after.input.bytes after.output.bytes × (after.link ≡ before.link)
Does (Some import) outcome remarks before after =
    TellsOfFile (TellsImport remarks) before.input.bytes before.output.bytes outcome after.input.bytes after.output.bytes × (after.link ≡ before.link)
Does (Some (why article at name budget)) outcome remarks before after =
    Retells (IsWhy budget article at name) (new_wiki budget) before.input.bytes before.output.bytes outcome after.input.bytes after.output.bytes
    × (after.link ≡ before.link)

-- what a command remarks: only `import` does
abbrev pub MayRemark : Option Asked → List ℕ → Type 0
MayRemark (Some import) remarks = ⊤
MayRemark other remarks = remarks ≡ []

-- the most bytes that the input of a command may have
abbrev pub most_input : Option Asked → ℕ
most_input (Some (check budget)) = MOST_BYTES
most_input (Some import) = MOST_BYTES
most_input other = MAX_INPUT

-- the source told no more than so many bytes
abbrev pub IsWithin : ℕ → Option (List ℕ) → Type 0
IsWithin most left = (bytes : List ℕ) × (left ≡ Some bytes) × (length bytes ≤ most)

-- Why it ended so: a fault came only where it was counted, and the input is too large only where it isn't within the bound. So a command
-- doesn't give up by itself, unless for memory.
abbrev pub HasCause : {S K L : Type 0} → Option Asked → Outcome → World S K L → World S K L → Type 0
HasCause command ReadFault before after = Rose before.input.faults after.input.faults
HasCause command WriteFault before after = Rose before.output.faults after.output.faults
HasCause command LinkFault before after = Rose before.link.faults after.link.faults
HasCause command TooMuch before after = ¬ IsWithin (most_input command) before.input.bytes
HasCause command outcome before after = ⊤

-- the command that the words are was carried out up to this outcome, which is `Usage` exactly where they are none, with these remarks
pub record Performs {S K L : Type 0} (words : List (List ℕ)) (outcome : Outcome) (remarks : List ℕ) (before after : World S K L) : Type 0 where
  pub usage : (outcome ≡ Usage) ↔ (command_of words ≡ None)
  pub does : Does (command_of words) outcome remarks before after
  pub remarks_are : MayRemark (command_of words) remarks
  pub cause : HasCause (command_of words) outcome before after

-- what standard error is told: the remarks where all was done, and else why it ended
abbrev pub told_at_end : Outcome → List ℕ → List ℕ
told_at_end Done remarks = remarks
told_at_end outcome remarks = words_of outcome

-- a message was written whole, or a front part of it where the sink's faults rose
abbrev pub Tells : {E : Type 0} → List ℕ → Stream E → Stream E → Type 0
Tells message errors errors_after =
    Appends errors.bytes errors_after.bytes message
    ⊎ ((n : ℕ) × (n ≤ length message) × Appends errors.bytes errors_after.bytes (take n message) × Rose errors.faults errors_after.faults)

-- What holds of every run of the wiki, beside what its steps say: a request is done where nothing stands against it, so that none is
-- refused without a cause; what stands is what is read from the input and the journal; no line of the journal is long; a change that is
-- taken back leaves what there was before it, and one that is done again what there was before it was taken back.
pub record HoldsOfRuns : Type 0 where
  pub done_where_free : DoesWhatIsFree
  pub stands : StandsAsRead
  pub short : WritesShortLines
  pub undo : UndoGivesBack
  pub redo : RedoGivesBack

-- The program ran with these words: their command was carried out up to an outcome, whose status it has, and whose words were written to
-- standard error, or where all was done the remarks.
pub record Runs {S K E L : Type 0} (words : List (List ℕ)) (status : ℕ) (before : World S K L) (errors : Stream E) (after : World S K L)
    (errors_after : Stream E) : Type 0 where
  pub outcome : Outcome
  pub remarks : List ℕ
  pub performs : Performs words outcome remarks before after
  pub status_is : status ≡ status_of outcome
  pub told : Tells (told_at_end outcome remarks) errors errors_after
  pub of_runs : HoldsOfRuns

-- The program ran with the words of a command line, where this tells them; or there was no memory for the words, and then nothing but
-- standard error was touched.
abbrev pub RunsLine : {S K E L : Type 0} → Option (List (List ℕ)) → ℕ → World S K L → Stream E → World S K L → Stream E → Type 0
RunsLine told status before errors after errors_after =
    ((words : List (List ℕ)) × IfSome told (λ line. words ≡ line) × Runs words status before errors after errors_after)
    ⊎ ((status ≡ status_of Memory) × Tells (words_of Memory) errors errors_after × (after ≡ before) × HoldsOfRuns)
