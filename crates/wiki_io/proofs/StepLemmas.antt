-- The steps of a reader: what each leaves of the lines to come.
use Rattle.std.proofs.Common.{◌≡◌, ℕ, ◌+◌, ◌<◌, ◌≤◌, Bool, true, false, cond, List, [], ◌∷◌, ◌++◌, length, take, drop, Some, refl, sym, ◌∙◌, ap, arith, Option, map}
use Rattle.std.specs.List.{slice_get}
use Rattle.std.specs.Io.KnownBytes.{Consumes}
use Rattle.std.proofs.lemmas.List.{append_assoc, append-nil, length-append}
use Rattle.std.proofs.lemmas.Bool.{false≢true}
use Rattle.wiki_io.specs.Lines.{after_newline, HasNoNewline, InputLine, text, too_long, line_of, input_lines, whole_lines}
use Rattle.wiki_io.specs.Reading.{Reading, bytes_to_come, lines_to_come, GivesLine, KeepsBytes, HasNoLine, ReadsLine, Fills, answered}
use Rattle.wiki_io.specs.declared.limits.TheConstants.{NEWLINE, MAX_LINE}
use Rattle.wiki_io.specs.declared.reader.Line.{Line}
use Rattle.wiki_io.specs.declared.reader.Line.TheVariants.{Text, TooLong, End}
use Rattle.wiki_io.specs.declared.sources.Got.{Got}
use Rattle.wiki_io.proofs.KnownLemmas.{Consumes-trans, Consumes-nil}
use Rattle.wiki_io.proofs.LineLemmas.{after_newline-part, cut_whole_lines-none}
use Rattle.wiki_io.proofs.PartLemmas.{input_lines-line, input_lines-too_long, input_lines-last, after_newline-line}

pub bytes_to_come-given : (r : Reading) (rest : List ℕ) → r.skips ≡ false → bytes_to_come r rest ≡ r.pending ++ rest
bytes_to_come-given r rest skips = rw skips refl

pub bytes_to_come-skipped : (r : Reading) (rest : List ℕ) → r.skips ≡ true → bytes_to_come r rest ≡ after_newline (r.pending ++ rest)
bytes_to_come-skipped r rest skips = rw skips refl

-- a line up to its newline is given
pub GivesLine-text : (old new : Reading) (n : ℕ) → old.skips ≡ false → n < MAX_LINE → HasNoNewline (take n old.pending)
    → slice_get old.pending n ≡ Some NEWLINE → new.skips ≡ false → new.pending ≡ drop (n + 1) old.pending → new.line ≡ take n old.pending
    → GivesLine old Text new
GivesLine-text old new n skips short none is goes_on pending line rest =
    ap input_lines (bytes_to_come-given old rest skips) ∙ input_lines-line old.pending rest n none is short
    ∙ ap (λ (l : List ℕ). text l ∷ input_lines (drop (n + 1) old.pending ++ rest)) (sym line)
    ∙ ap (λ (l : List ℕ). text new.line ∷ input_lines l) (ap (λ (l : List ℕ). l ++ rest) (sym pending) ∙ sym (bytes_to_come-given new rest goes_on))

-- the first bytes of a line that is too long are given as such
pub GivesLine-too_long : (old new : Reading) (n : ℕ) → old.skips ≡ false → 0 < n → MAX_LINE ≤ n → n ≤ length old.pending → HasNoNewline (take n old.pending)
    → new.skips ≡ true → new.pending ≡ drop n old.pending → GivesLine old TooLong new
GivesLine-too_long old new n skips some long room none skipping pending rest =
    ap input_lines (bytes_to_come-given old rest skips) ∙ input_lines-too_long old.pending rest n none some long room
    ∙ ap (λ (l : List ℕ). too_long ∷ input_lines l)
    (ap (λ (l : List ℕ). after_newline (l ++ rest)) (sym pending) ∙ sym (bytes_to_come-skipped new rest skipping))

-- the newline of a line that was too long is skipped
pub KeepsBytes-newline : (old new : Reading) (n : ℕ) → old.skips ≡ true → HasNoNewline (take n old.pending) → slice_get old.pending n ≡ Some NEWLINE
    → new.skips ≡ false → new.pending ≡ drop (n + 1) old.pending → KeepsBytes old new
KeepsBytes-newline old new n skips none is goes_on pending rest =
    bytes_to_come-skipped old rest skips ∙ after_newline-line old.pending rest n none is
    ∙ ap (λ (l : List ℕ). l ++ rest) (sym pending) ∙ sym (bytes_to_come-given new rest goes_on)

-- more bytes of such a line are skipped
pub KeepsBytes-skipped : (old new : Reading) → old.skips ≡ true → HasNoNewline old.pending → new.skips ≡ true → new.pending ≡ [] → KeepsBytes old new
KeepsBytes-skipped old new skips none skipping pending rest =
    bytes_to_come-skipped old rest skips ∙ after_newline-part old.pending rest none
    ∙ ap (λ (l : List ℕ). after_newline (l ++ rest)) (sym pending) ∙ sym (bytes_to_come-skipped new rest skipping)

-- nothing that matters has changed
pub KeepsBytes-same : (old new : Reading) → new.skips ≡ old.skips → new.pending ≡ old.pending → KeepsBytes old new
KeepsBytes-same old new skips pending rest =
    ap (λ (b : Bool). cond b (after_newline (old.pending ++ rest)) (old.pending ++ rest)) (sym skips)
    ∙ ap (λ (l : List ℕ). cond new.skips (after_newline (l ++ rest)) (l ++ rest)) (sym pending)

-- at the end, what is left is the last line
pub lines_to_come-last : (old : Reading) → HasNoLine old → 0 < length old.pending → lines_to_come old [] ≡ text old.pending ∷ []
lines_to_come-last old no_line some = elim old.skips as (λ b. old.skips ≡ b → lines_to_come old [] ≡ text old.pending ∷ []) [
  | true ↦ λ skips. absurd (omega (arith, ap length (no_line.skipped skips)))
  | false ↦ λ skips. ap input_lines (bytes_to_come-given old [] skips) ∙ input_lines-last old.pending no_line.no_newline no_line.short some
] refl

pub lines_to_come-none : (old : Reading) → old.pending ≡ [] → lines_to_come old [] ≡ []
lines_to_come-none old pending =
    ap (λ (l : List ℕ). input_lines (cond old.skips (after_newline (l ++ [])) (l ++ []))) pending ∙ nothing old.skips
  where
    nothing : (b : Bool) → input_lines (cond b [] []) ≡ []
    nothing true = refl
    nothing false = refl

-- bytes that were read behind those that were pending
bytes_to_come-append : (now new : Reading) (more rest : List ℕ) → new.skips ≡ now.skips → new.pending ≡ now.pending ++ more
    → bytes_to_come now (more ++ rest) ≡ bytes_to_come new rest
bytes_to_come-append now new more rest skips pending =
    let bytes : now.pending ++ (more ++ rest) ≡ new.pending ++ rest = sym (append_assoc now.pending more rest) ∙ ap (λ (l : List ℕ). l ++ rest) (sym pending) in
    ap (λ (l : List ℕ). cond now.skips (after_newline l) l) bytes
    ∙ ap (λ (b : Bool). cond b (after_newline (new.pending ++ rest)) (new.pending ++ rest)) (sym skips)

-- In the midst of a call: it began at `first` and `old`, and since then it has read some bytes and given no line.
pub record HasRead (first : Option (List ℕ)) (old now : Reading) (left : Option (List ℕ)) : Type 0 where
  pub got : List ℕ
  pub source : Consumes first left got
  pub count : now.count ≡ old.count + length got
  pub bytes : (rest : List ℕ) → bytes_to_come old (got ++ rest) ≡ bytes_to_come now rest
  pub goes_on : now.ended ≡ false

pub HasRead-none : (left : Option (List ℕ)) (old : Reading) → old.ended ≡ false → HasRead left old old left
HasRead-none left old goes_on = record { got = []; source = Consumes-nil left; count = omega arith; bytes = λ rest. refl; goes_on = goes_on }

pub HasRead-kept : (first : Option (List ℕ)) (old now new : Reading) (left : Option (List ℕ)) → HasRead first old now left
    → KeepsBytes now new → new.count ≡ now.count → new.ended ≡ false → HasRead first old new left
HasRead-kept first old now new left read kept count goes_on = record {
  got = read.got;
  source = read.source;
  count = count ∙ read.count;
  bytes = λ rest. read.bytes rest ∙ kept rest;
  goes_on = goes_on;
}

pub HasRead-more : (first : Option (List ℕ)) (old now new : Reading) (before left : Option (List ℕ)) (answer : Got) → HasRead first old now before
    → Fills before now answer new left → HasRead first old new left
HasRead-more first old now new before left answer read fills = record {
  got = read.got ++ fills.got;
  source = Consumes-trans first before left read.got fills.got read.source fills.source;
  count = omega (arith, fills.count, read.count, length-append read.got fills.got);
  bytes = λ rest. ap (λ (l : List ℕ). bytes_to_come old l) (append_assoc read.got fills.got rest) ∙ read.bytes (fills.got ++ rest)
      ∙ bytes_to_come-append now new fills.got rest fills.skips fills.pending;
  goes_on = fills.ended ∙ read.goes_on;
}

-- The call ends with a line of what was read,
pub ReadsLine-line : (first : Option (List ℕ)) (old now new : Reading) (left : Option (List ℕ)) (answer : Line) → old.ended ≡ false → HasRead first old now left
    → GivesLine now answer new → new.count ≡ now.count → ReadsLine first old answer new left
ReadsLine-line first old now new left answer goes_on read gives count = record {
  got = read.got;
  source = read.source;
  count = count ∙ read.count;
  at_end = λ ended. absurd (false≢true (sym goes_on ∙ ended));
  lines = λ rest follows. ap input_lines (read.bytes rest) ∙ gives rest;
}

-- with none, since a read failed or there is too much,
pub ReadsLine-none : (first : Option (List ℕ)) (old now : Reading) (left : Option (List ℕ)) (answer : Line) → old.ended ≡ false → HasRead first old now left
    → answered answer now.line ≡ [] → ReadsLine first old answer now left
ReadsLine-none first old now left answer goes_on read none = record {
  got = read.got;
  source = read.source;
  count = read.count;
  at_end = λ ended. absurd (false≢true (sym goes_on ∙ ended));
  lines = λ rest follows. ap input_lines (read.bytes rest) ∙ ap (λ (l : List InputLine). l ++ lines_to_come now rest) (sym none);
}

-- or at the source's end with the last line, if there is one.
pub ReadsLine-last : (first : Option (List ℕ)) (old now new : Reading) (left : Option (List ℕ)) (answer : Line) → old.ended ≡ false → HasRead first old now left
    → lines_to_come now [] ≡ answered answer new.line → new.ended ≡ true → new.pending ≡ [] → new.count ≡ now.count → ReadsLine first old answer new left
ReadsLine-last first old now new left answer goes_on read last ended pending count = record {
  got = read.got;
  source = read.source;
  count = count ∙ read.count;
  at_end = λ was. absurd (false≢true (sym goes_on ∙ was));
  lines = λ rest follows.
      let none : rest ≡ [] = follows ended in
      ap (λ (l : List ℕ). lines_to_come old (read.got ++ l)) none ∙ ap input_lines (read.bytes []) ∙ last
      ∙ sym (append-nil (answered answer new.line)) ∙ ap (λ (l : List InputLine). answered answer new.line ++ l) (sym (lines_to_come-none new pending))
      ∙ ap (λ (l : List ℕ). answered answer new.line ++ lines_to_come new l) (sym none);
}

-- A call after the end.
pub ReadsLine-ended : (left : Option (List ℕ)) (old new : Reading) → old.pending ≡ [] → new.pending ≡ [] → new.ended ≡ old.ended → old.ended ≡ true
    → new.count ≡ old.count
    → ReadsLine left old End new left
ReadsLine-ended left old new was is same ended count = record {
  got = [];
  source = Consumes-nil left;
  count = omega (arith, count);
  at_end = λ was. (refl, same ∙ was);
  lines = λ rest follows.
      let none : rest ≡ [] = follows (same ∙ ended) in
      ap (λ (l : List ℕ). lines_to_come old l) none ∙ lines_to_come-none old was ∙ sym (lines_to_come-none new is)
      ∙ ap (λ (l : List ℕ). lines_to_come new l) (sym none);
}

-- what was read has no line
pub whole_lines-none : (r : Reading) → HasNoLine r → whole_lines (bytes_to_come r []) ≡ []
whole_lines-none r no_line = elim r.skips as (λ b. r.skips ≡ b → whole_lines (bytes_to_come r []) ≡ []) [
  | true ↦ λ skips. ap whole_lines (bytes_to_come-skipped r [] skips ∙ ap (λ (l : List ℕ). after_newline (l ++ [])) (no_line.skipped skips))
  | false ↦ λ skips. ap whole_lines (bytes_to_come-given r [] skips ∙ append-nil r.pending)
      ∙ ap (map line_of) (cut_whole_lines-none r.pending no_line.no_newline)
] refl

-- a step of the call: no line was cut, and a read came
pub HasRead-step : (first : Option (List ℕ)) (old now cut new : Reading) (before left : Option (List ℕ)) (answer : Got) → HasRead first old now before
    → HasNoLine cut × KeepsBytes now cut → cut.count ≡ now.count → Fills before cut answer new left → HasRead first old new left
HasRead-step first old now cut new before left answer read none count fills =
    HasRead-more first old cut new before left answer (HasRead-kept first old now cut before read none.1 count none.0.goes_on) fills

-- and it is not too long yet
bytes_to_come-short : (r : Reading) → HasNoLine r → length (bytes_to_come r []) < MAX_LINE
bytes_to_come-short r no_line = elim r.skips as (λ b. r.skips ≡ b → length (bytes_to_come r []) < MAX_LINE) [
  | true ↦ λ skips. let none : bytes_to_come r [] ≡ [] =
      bytes_to_come-skipped r [] skips ∙ ap (λ (l : List ℕ). after_newline (l ++ [])) (no_line.skipped skips) in omega (arith, ap length none)
  | false ↦ λ skips. omega (arith, no_line.short, ap length (bytes_to_come-given r [] skips), length-append r.pending [])
] refl

-- Before a read there was no line from the beginning of the call on.
pub none_there : (old now cut : Reading) → KeepsBytes old now → HasNoLine cut × KeepsBytes now cut → whole_lines (bytes_to_come old []) ≡ []
none_there old now cut kept none = ap whole_lines (kept [] ∙ none.1 []) ∙ whole_lines-none cut none.0

pub short_there : (old now cut : Reading) → KeepsBytes old now → HasNoLine cut × KeepsBytes now cut → length (bytes_to_come old []) < MAX_LINE
short_there old now cut kept none = omega (arith, ap length (kept [] ∙ none.1 []), bytes_to_come-short cut none.0)
