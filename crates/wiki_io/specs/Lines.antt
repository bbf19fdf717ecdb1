-- The lines of an input, as a list of bytes is cut into them.
use Rattle.std.specs.Prelude.{◌≡◌, ◌≢◌, ◌⊎◌, ℕ, Option, List, [], ◌∷◌, ◌++◌, length, map, All, ◌==◌, nat_lt, if◌then◌else◌}
use Rattle.std.specs.List.{onto_first}
use Rattle.std.specs.Io.KnownBytes.{IsAtEnd}
use Rattle.wiki_io.specs.declared.limits.TheConstants.{NEWLINE, MAX_LINE}

-- the pieces that end with a newline byte, without it, and the rest of the bytes if there is a rest
abbrev pub cut_lines : List ℕ → List (List ℕ)
cut_lines [] = []
cut_lines (b ∷ bytes) = if b == NEWLINE then [] ∷ cut_lines bytes else onto_first b (cut_lines bytes)

-- a line as its reader gets it: its bytes without the newline, or only that it is too long
pub data InputLine : Type 0 where
  text : List ℕ → InputLine
  too_long : InputLine

-- a line of `MAX_LINE` bytes and more is too long
abbrev pub line_of : List ℕ → InputLine
line_of bytes = if nat_lt (length bytes) MAX_LINE then text bytes else too_long

-- the lines of an input
abbrev pub input_lines : List ℕ → List InputLine
input_lines bytes = map line_of (cut_lines bytes)

-- a byte put before the first of the lines, if there is a line
abbrev pub into_first : ℕ → List (List ℕ) → List (List ℕ)
into_first b [] = []
into_first b (line ∷ lines) = (b ∷ line) ∷ lines

-- the pieces that end with a newline byte alone
abbrev pub cut_whole_lines : List ℕ → List (List ℕ)
cut_whole_lines [] = []
cut_whole_lines (b ∷ bytes) = if b == NEWLINE then [] ∷ cut_whole_lines bytes else into_first b (cut_whole_lines bytes)

-- the lines whose newline byte stands in the bytes
abbrev pub whole_lines : List ℕ → List InputLine
whole_lines bytes = map line_of (cut_whole_lines bytes)

-- the bytes after the first newline byte, and none where there is no such byte
abbrev pub after_newline : List ℕ → List ℕ
after_newline [] = []
after_newline (b ∷ bytes) = if b == NEWLINE then bytes else after_newline bytes

-- no byte is a newline byte
abbrev pub HasNoNewline : List ℕ → Type 0
HasNoNewline bytes = All (λ b. b ≢ NEWLINE) bytes

-- the one list begins the other
abbrev pub Begins : {X : Type 0} → List X → List X → Type 0
Begins {X} front whole = (more : List X) × (whole ≡ front ++ more)

-- Lines that are known from the first bytes of an input, after which it has `left` left: whatever comes after these
-- bytes, the input begins with these lines. At the input's end its last line is known too.
abbrev pub AreKnown : List ℕ → Option (List ℕ) → List InputLine → Type 0
AreKnown read left lines = ((rest : List ℕ) → Begins lines (input_lines (read ++ rest))) ⊎ (IsAtEnd left × Begins lines (input_lines read))

-- Lines that can be known from these first bytes of an input, whatever comes after: the whole ones. A last one that is
-- too long already, and whose newline has not come, may be among them or not.
abbrev pub AreReadLines : List ℕ → List InputLine → Type 0
AreReadLines bytes lines =
    (lines ≡ whole_lines bytes)
    ⊎ ((lines ≡ whole_lines bytes ++ too_long ∷ []) × (lines ≡ input_lines bytes))
