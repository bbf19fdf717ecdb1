-- Commands that write a text about a file.
use Rattle.std.proofs.Common.{◌≡◌, ℕ, List, Option, refl, sym, subst}
use Rattle.std.specs.Prelude.{Result, Ok, Err, IfOk}
use Rattle.std.specs.Io.KnownBytes.{Consumes}
use Rattle.wiki_io.proofs.KnownLemmas.{Appends-nil}
use Rattle.owl_intake.specs.declared.input.CutShort.{CutShort}
use Rattle.owl_intake.specs.declared.input.CutShort.TheVariants as cut
use Rattle.owl_intake.specs.Input.{EndsInput, ReadsInput}
use Rattle.command_line.specs.declared.command.Outcome.{Outcome}
use Rattle.command_line.specs.declared.command.Outcome.TheVariants as outcomes
use Rattle.commands.specs.Steps.{EndsWriting, cut_outcome}
use Rattle.commands.specs.Theorem.{EndsOnFile, EndsRetelling, TellsOfFile}

-- a text about what was read was written
ends_so : {E : Type 0} (IsText : List ℕ → List ℕ → Type 0) (read : List ℕ) (left : Option (List ℕ)) (text : Result (List ℕ) E) (outcome : Outcome)
    (taken taken_after : Option (List ℕ)) → EndsInput (Ok read) read left → IfOk text (IsText read) → EndsWriting text outcome taken taken_after
    → EndsOnFile IsText outcome read left taken taken_after
ends_so IsText read left (Ok text) outcomes.Done taken taken_after read_so is ends = (read_so.0, read_so.1, (text, is, ends))
ends_so IsText read left (Ok text) outcomes.WriteFault taken taken_after read_so is ends = (read_so.0, read_so.1, (text, is, ends))
ends_so IsText read left (Ok text) _ taken taken_after read_so is ends = absurd ends
ends_so IsText read left (Err none) outcomes.Memory taken taken_after read_so is ends = (read_so.1, ends)
ends_so IsText read left (Err none) _ taken taken_after read_so is ends = absurd ends

-- the whole file was read, and then the text was written
pub TellsOfFile-written : {E : Type 0} (IsText : List ℕ → List ℕ → Type 0) (left taken : Option (List ℕ)) (got : Result (List ℕ) CutShort) (file : List ℕ)
    (text : Result (List ℕ) E) (outcome : Outcome) (left_after taken_after : Option (List ℕ)) → got ≡ Ok file → ReadsInput left left_after got
    → IfOk text (IsText file) → EndsWriting text outcome taken taken_after → TellsOfFile IsText left taken outcome left_after taken_after
TellsOfFile-written IsText left taken got file text outcome left_after taken_after whole reads is ends = record {
  read = file;
  source = subst (Consumes left left_after) (sym so.ends.2) so.source;
  ends = ends_so IsText file left_after text outcome taken taken_after (subst (λ (l : List ℕ). EndsInput (Ok file) l left_after) (sym so.ends.2) so.ends) is
      ends;
}
  where
    so : ReadsInput left left_after (Ok file)
    so = subst (ReadsInput left left_after) whole reads

-- what ends so behind the lines of an input ends so on a file
on_file : (IsText : List ℕ → List ℕ → Type 0) (read : List ℕ) (left : Option (List ℕ)) (outcome : Outcome) (taken taken_after : Option (List ℕ))
    → EndsInput (Ok read) read left → EndsRetelling (IsText read) outcomes.Done outcome taken taken_after
    → EndsOnFile IsText outcome read left taken taken_after
on_file IsText read left outcomes.Done taken taken_after read_so ends = (read_so.0, read_so.1, ends)
on_file IsText read left outcomes.WriteFault taken taken_after read_so ends = (read_so.0, read_so.1, ends)
on_file IsText read left outcomes.Memory taken taken_after read_so ends = (read_so.1, ends)
on_file IsText read left outcomes.Usage taken taken_after read_so ends = absurd ends
on_file IsText read left outcomes.ReadFault taken taken_after read_so ends = absurd ends
on_file IsText read left outcomes.LinkFault taken taken_after read_so ends = absurd ends
on_file IsText read left outcomes.TooMuch taken taken_after read_so ends = absurd ends

-- the whole file was read, and then a text about it was written
pub TellsOfFile-retold : (IsText : List ℕ → List ℕ → Type 0) (left taken : Option (List ℕ)) (got : Result (List ℕ) CutShort) (file slice : List ℕ)
    (outcome : Outcome) (left_after taken_after : Option (List ℕ)) → got ≡ Ok file → ReadsInput left left_after got → slice ≡ file
    → EndsRetelling (IsText slice) outcomes.Done outcome taken taken_after → TellsOfFile IsText left taken outcome left_after taken_after
TellsOfFile-retold IsText left taken got file slice outcome left_after taken_after whole reads same ends = record {
  read = file;
  source = subst (Consumes left left_after) (sym so.ends.2) so.source;
  ends = on_file IsText file left_after outcome taken taken_after (subst (λ (l : List ℕ). EndsInput (Ok file) l left_after) (sym so.ends.2) so.ends)
      (subst (λ (f : List ℕ). EndsRetelling (IsText f) outcomes.Done outcome taken taken_after) same ends);
}
  where
    so : ReadsInput left left_after (Ok file)
    so = subst (ReadsInput left left_after) whole reads

-- there was no memory for a text
pub retold_without_memory : (IsText : List ℕ → Type 0) (outcome : Outcome) (taken : Option (List ℕ)) → outcome ≡ outcomes.Memory
    → EndsRetelling IsText outcomes.Done outcome taken taken
retold_without_memory IsText outcome taken is =
    subst (λ (o : Outcome). EndsRetelling IsText outcomes.Done o taken taken) (sym is) (Appends-nil taken)

-- which ends there are not
pub no_read_retold : (IsText : List ℕ → Type 0) (outcome : Outcome) (taken taken_after : Option (List ℕ))
    → EndsRetelling IsText outcomes.Done outcome taken taken_after → outcome ≡ outcomes.ReadFault → ⊥
no_read_retold IsText outcome taken taken_after ends is = subst (λ (o : Outcome). EndsRetelling IsText outcomes.Done o taken taken_after) is ends

pub no_link_retold : (IsText : List ℕ → Type 0) (outcome : Outcome) (taken taken_after : Option (List ℕ))
    → EndsRetelling IsText outcomes.Done outcome taken taken_after → outcome ≡ outcomes.LinkFault → ⊥
no_link_retold IsText outcome taken taken_after ends is = subst (λ (o : Outcome). EndsRetelling IsText outcomes.Done o taken taken_after) is ends

-- the file was not read to its end, and nothing was written
pub TellsOfFile-cut : (IsText : List ℕ → List ℕ → Type 0) (left taken : Option (List ℕ)) (got : Result (List ℕ) CutShort) (why : CutShort)
    (outcome : Outcome) (left_after : Option (List ℕ)) → got ≡ Err why → ReadsInput left left_after got → outcome ≡ cut_outcome why
    → TellsOfFile IsText left taken outcome left_after taken
TellsOfFile-cut IsText left taken got why outcome left_after is reads ended = record {
  read = so.read;
  source = so.source;
  ends = subst (λ (o : Outcome). EndsOnFile IsText o so.read left_after taken taken) (sym ended) (ends why so.ends);
}
  where
    so : ReadsInput left left_after (Err why)
    so = subst (ReadsInput left left_after) is reads

    ends : (w : CutShort) → EndsInput (Err w) so.read left_after → EndsOnFile IsText (cut_outcome w) so.read left_after taken taken
    ends cut.ReadFault few = (few, Appends-nil taken)
    ends cut.TooMuch many = (many, Appends-nil taken)
    ends cut.Memory few = (few, Appends-nil taken)

-- which cut is a read fault, and which ends there are not
pub fault_of_cut : (why : CutShort) → cut_outcome why ≡ outcomes.ReadFault → why ≡ cut.ReadFault
fault_of_cut cut.ReadFault is = refl
fault_of_cut cut.TooMuch is = cc
fault_of_cut cut.Memory is = cc

pub no_write_cut : (why : CutShort) → cut_outcome why ≡ outcomes.WriteFault → ⊥
no_write_cut cut.ReadFault is = cc
no_write_cut cut.TooMuch is = cc
no_write_cut cut.Memory is = cc

pub no_link_cut : (why : CutShort) → cut_outcome why ≡ outcomes.LinkFault → ⊥
no_link_cut cut.ReadFault is = cc
no_link_cut cut.TooMuch is = cc
no_link_cut cut.Memory is = cc
