-- What a reading of a text that lies in memory is in. Only calls inside the crate speak of it.
use Rattle.std.specs.Prelude.{◌≡◌, ℕ, ◌≤◌, List, [], Option, Some, None, Result, Ok, Err, slice_range}
use Rattle.lists.specs.declared.memory.Memory.{Memory}
use Rattle.codeco_text.specs.declared.mode.Mode.{Mode}
use Rattle.codeco_text.specs.declared.mode.Mode.TheVariants as mode
use Rattle.codeco_text.specs.declared.written.WrittenItem.{WrittenItem}
use Rattle.codeco_text.specs.declared.builder.Builder.{Builder}
use Rattle.codeco_text.specs.declared.syntax_fault.SyntaxFault.{SyntaxFault}
use Rattle.codeco_text.specs.declared.syntax_fault.SyntaxFault.TheVariants as fault
use Rattle.codeco_text.specs.Scanning as scanning

-- in what a reading is, with the bytes of its symbol so far, before the byte at this place
abbrev pub seen : List ℕ → ℕ → Mode → scanning.Mode
seen text at mode.Between = scanning.between
seen text at mode.Comment = scanning.comment
seen text at (mode.Word start) = scanning.word (slice_range text start at)
seen text at (mode.Terminal start) = scanning.terminal (slice_range text start at)
seen text at mode.Dash = scanning.dash
seen text at mode.Dashes = scanning.dashes
seen text at mode.Tilde = scanning.tilde
seen text at mode.Tildes = scanning.tildes
seen text at mode.Slash = scanning.slash
seen text at mode.Greater = scanning.greater

-- a word or a terminal begins before this place
abbrev pub StartsWithin : ℕ → Mode → Type 0
StartsWithin at (mode.Word start) = start ≤ at
StartsWithin at (mode.Terminal start) = start ≤ at
StartsWithin _ _ = Unit {0}

-- in a sign of several bytes other than >>
abbrev pub IsSignMode : Mode → Type 0
IsSignMode mode.Dash = Unit {0}
IsSignMode mode.Dashes = Unit {0}
IsSignMode mode.Tilde = Unit {0}
IsSignMode mode.Tildes = Unit {0}
IsSignMode mode.Slash = Unit {0}
IsSignMode _ = ⊥

-- whether a call went on as a step does, unless memory ran out
abbrev pub Steps : Option (Builder × scanning.Mode) → List ℕ → ℕ → Result (Option Mode) Memory → Builder → Type 0
Steps o text next (Ok (Some m)) new = (o ≡ Some (new, seen text next m)) × StartsWithin next m
Steps o text next (Ok None) new = o ≡ None
Steps o text next (Err e) new = Unit {0}

-- whether a call answered as reading does, unless memory ran out
abbrev pub Reads : Result (List WrittenItem) SyntaxFault → Result (List WrittenItem) ℕ → Type 0
Reads (Ok items) read = read ≡ Ok items
Reads (Err (fault.At place)) read = read ≡ Err place
Reads (Err fault.Memory) read = Unit {0}
