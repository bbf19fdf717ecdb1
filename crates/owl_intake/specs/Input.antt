-- The bytes of a whole input.
use Rattle.std.specs.Prelude.{◌≡◌, ℕ, ◌<◌, ◌≤◌, List, length, Option, Result, Ok, Err}
use Rattle.std.specs.Io.KnownBytes.{Consumes, IsAtEnd}
use Rattle.owl_intake.specs.declared.input.TheConstants.{MOST_BYTES}
use Rattle.owl_intake.specs.declared.input.CutShort.{CutShort}
use Rattle.owl_intake.specs.declared.input.CutShort.TheVariants.{ReadFault, TooMuch, Memory}

-- How reading ends: with all bytes, at the end of an input that isn't too large; behind one byte too many; and else before.
abbrev pub EndsInput : Result (List ℕ) CutShort → List ℕ → Option (List ℕ) → Type 0
EndsInput (Ok bytes) read left = IsAtEnd left × (length read ≤ MOST_BYTES) × (bytes ≡ read)
EndsInput (Err ReadFault) read left = length read ≤ MOST_BYTES
EndsInput (Err TooMuch) read left = MOST_BYTES < length read
EndsInput (Err Memory) read left = length read ≤ MOST_BYTES

-- bytes were read, and reading ended so
pub record ReadsInput (left left_after : Option (List ℕ)) (result : Result (List ℕ) CutShort) : Type 0 where
  pub read : List ℕ
  pub source : Consumes left left_after read
  pub ends : EndsInput result read left_after
