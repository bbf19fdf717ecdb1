-- A reader in the midst of an input, and what one of its calls does.
use Rattle.std.specs.Prelude.{◌≡◌, ◌<◌, ◌+◌, ℕ, Bool, false, IsTrue, List, [], ◌∷◌, ◌++◌, length, Option, if◌then◌else◌}
use Rattle.std.specs.Io.KnownBytes.{Consumes}
use Rattle.wiki_io.specs.Lines.{InputLine, text, too_long, input_lines, after_newline, HasNoNewline}
use Rattle.wiki_io.specs.declared.limits.TheConstants.{MAX_LINE}
use Rattle.wiki_io.specs.declared.reader.Line.{Line}
use Rattle.wiki_io.specs.declared.reader.Line.TheVariants.{Text, TooLong}
use Rattle.wiki_io.specs.declared.sources.Got.{Got}
use Rattle.wiki_io.specs.declared.sources.Got.TheVariants.{Bytes, End as AtEnd, Failed}

pub record Reading : Type 0 where
  -- what was read of the input and not given yet
  pub pending : List ℕ
  -- whether the next line starts only after the next newline byte, since the line there was given as too long
  pub skips : Bool
  -- whether the source has said that it ends
  pub ended : Bool
  -- how many bytes of the input were read
  pub count : ℕ
  -- the line that the last call gave, where it gave one
  pub line : List ℕ

-- a reader that has read nothing
abbrev pub unread : Reading
unread = record { pending = []; skips = false; ended = false; count = 0; line = [] }

-- the bytes of the lines that are still to be given, where `rest` comes after what was read
abbrev pub bytes_to_come : Reading → List ℕ → List ℕ
bytes_to_come reader rest = if reader.skips then after_newline (reader.pending ++ rest) else reader.pending ++ rest

-- the lines that are still to be given
abbrev pub lines_to_come : Reading → List ℕ → List InputLine
lines_to_come reader rest = input_lines (bytes_to_come reader rest)

-- after the source's end there comes nothing
abbrev pub CanFollow : Reading → List ℕ → Type 0
CanFollow reader rest = IsTrue reader.ended → rest ≡ []

-- the line that an answer of `next_line` gives, if it gives one
abbrev pub answered : Line → List ℕ → List InputLine
answered Text line = text line ∷ []
answered TooLong line = too_long ∷ []
answered _ _ = []

-- One call of `next_line`, from `left` and `old` to `left_after` and `new`. It reads some bytes. The lines to come before
-- are the line that it gives and the lines to come after it, whatever follows in the input.
pub record ReadsLine (left : Option (List ℕ)) (old : Reading) (answer : Line) (new : Reading) (left_after : Option (List ℕ)) : Type 0 where
  pub got : List ℕ
  pub source : Consumes left left_after got
  pub count : new.count ≡ old.count + length got
  pub at_end : IsTrue old.ended → (got ≡ []) × IsTrue new.ended
  pub lines : (rest : List ℕ) → CanFollow new rest
      → lines_to_come old (got ++ rest) ≡ answered answer new.line ++ lines_to_come new rest

-- the same for a call that only gives a line of what was read
abbrev pub GivesLine : Reading → Line → Reading → Type 0
GivesLine old answer new = (rest : List ℕ) → lines_to_come old rest ≡ answered answer new.line ++ lines_to_come new rest

-- the bytes to come stay the same
abbrev pub KeepsBytes : Reading → Reading → Type 0
KeepsBytes old new = (rest : List ℕ) → bytes_to_come old rest ≡ bytes_to_come new rest

-- bytes came where the answer says so, and none otherwise
abbrev pub GotSome : Got → List ℕ → Type 0
GotSome (Bytes n) got = 0 < length got
GotSome AtEnd got = got ≡ []
GotSome Failed got = got ≡ []

-- a read puts the bytes that it gave behind those that were there
pub record Fills (left : Option (List ℕ)) (old : Reading) (answer : Got) (new : Reading) (left_after : Option (List ℕ)) : Type 0 where
  pub got : List ℕ
  pub source : Consumes left left_after got
  pub count : new.count ≡ old.count + length got
  pub pending : new.pending ≡ old.pending ++ got
  pub skips : new.skips ≡ old.skips
  pub ended : new.ended ≡ old.ended
  pub line : new.line ≡ []
  pub some : GotSome answer got

-- each line that can be known from what was read has been given, and the source may go on
pub record HasNoLine (reader : Reading) : Type 0 where
  pub no_newline : HasNoNewline reader.pending
  pub short : length reader.pending < MAX_LINE
  pub skipped : IsTrue reader.skips → reader.pending ≡ []
  pub goes_on : reader.ended ≡ false

-- Since a fresh reader, `bytes` were read, and `given` are the lines that were given. Whatever follows, those are the first
-- lines of the input, and those to come are the others.
abbrev pub HasGiven : List ℕ → List InputLine → Reading → Type 0
HasGiven bytes given reader = (rest : List ℕ) → CanFollow reader rest
    → input_lines (bytes ++ rest) ≡ given ++ lines_to_come reader rest

-- The same, where the source had `first` left when the reader was fresh, and has `left` left now.
pub record HasGivenFrom (first : Option (List ℕ)) (given : List InputLine) (reader : Reading) (left : Option (List ℕ)) : Type 0 where
  pub bytes : List ℕ
  pub source : Consumes first left bytes
  pub count : reader.count ≡ length bytes
  pub lines : HasGiven bytes given reader
