-- Commands that write a text about the wiki behind the lines of the input.
use Rattle.std.proofs.Common.{◌≡◌, ℕ, List, Option, refl, subst}
use Rattle.std.specs.Prelude.{Result, Ok, Err, IfOk}
use Rattle.wiki_io.proofs.KnownLemmas.{Appends-nil}
use Rattle.command_line.specs.declared.command.Outcome.{Outcome}
use Rattle.command_line.specs.declared.command.Outcome.TheVariants as outcomes
use Rattle.commands.specs.Lines.{StepsLines}
use Rattle.commands.specs.Steps.{StepsInput, EndsWriting}
use Rattle.commands.specs.Theorem.{EndsReading, EndsRetelling, Retells}
use Rattle.commands.specs.Wiki.{Holding, Recalling}
use Rattle.commands.proofs.ServeLemmas.{StepsInput-none}

-- a text that was written is one of those that are asked for
pub ends_so : {E : Type 0} (IsText : List ℕ → Type 0) (text : Result (List ℕ) E) (outcome : Outcome) (taken taken_after : Option (List ℕ)) → IfOk text IsText
    → EndsWriting text outcome taken taken_after → EndsRetelling IsText outcomes.Done outcome taken taken_after
ends_so IsText (Ok text) outcomes.Done taken taken_after is ends = (text, is, ends)
ends_so IsText (Ok text) outcomes.WriteFault taken taken_after is ends = (text, is, ends)
ends_so IsText (Ok text) outcomes.Usage taken taken_after is ends = absurd ends
ends_so IsText (Ok text) outcomes.ReadFault taken taken_after is ends = absurd ends
ends_so IsText (Ok text) outcomes.LinkFault taken taken_after is ends = absurd ends
ends_so IsText (Ok text) outcomes.TooMuch taken taken_after is ends = absurd ends
ends_so IsText (Ok text) outcomes.Memory taken taken_after is ends = absurd ends
ends_so IsText (Err none) outcomes.Memory taken taken_after is ends = ends
ends_so IsText (Err none) outcomes.Done taken taken_after is ends = absurd ends
ends_so IsText (Err none) outcomes.WriteFault taken taken_after is ends = absurd ends
ends_so IsText (Err none) outcomes.Usage taken taken_after is ends = absurd ends
ends_so IsText (Err none) outcomes.ReadFault taken taken_after is ends = absurd ends
ends_so IsText (Err none) outcomes.LinkFault taken taken_after is ends = absurd ends
ends_so IsText (Err none) outcomes.TooMuch taken taken_after is ends = absurd ends

-- all lines were stepped, and then the text was written
pub Retells-written : {E : Type 0} (IsText : Holding → List ℕ → Type 0) (first : Recalling) (left taken : Option (List ℕ)) (read_so outcome : Outcome)
    (left_after taken_after : Option (List ℕ)) (wiki : Recalling) (text : Result (List ℕ) E) → read_so ≡ outcomes.Done
    → StepsInput first left read_so left_after wiki
    → IfOk text (IsText wiki.wiki) → EndsWriting text outcome taken taken_after → Retells IsText first left taken outcome left_after taken_after
Retells-written IsText first left taken read_so outcome left_after taken_after wiki text done input is ends = record {
  read_so = outcomes.Done;
  lines = read.lines;
  reads = read.reads;
  exchanges = read.exchanges;
  last = wiki;
  steps = subst (λ (reached : Recalling). StepsLines first read.lines read.exchanges reached) (read.last_is refl) read.steps;
  ends = ends_so (IsText wiki.wiki) text outcome taken taken_after is ends;
}
  where
    read : StepsInput first left outcomes.Done left_after wiki
    read = subst (λ (o : Outcome). StepsInput first left o left_after wiki) done input

-- reading ended before, and nothing was written
pub Retells-stopped : (IsText : Holding → List ℕ → Type 0) (first : Recalling) (left taken : Option (List ℕ)) (outcome : Outcome)
    (left_after : Option (List ℕ)) (wiki : Recalling) → StepsInput first left outcome left_after wiki
    → (outcome ≡ outcomes.Done → ⊥) → (outcome ≡ outcomes.WriteFault → ⊥) → Retells IsText first left taken outcome left_after taken
Retells-stopped IsText first left taken outcome left_after wiki input not_done not_write = record {
  read_so = outcome;
  lines = input.lines;
  reads = input.reads;
  exchanges = input.exchanges;
  last = input.reached;
  steps = input.steps;
  ends = ends outcome input.reads.ends not_done not_write;
}
  where
    ends : (o : Outcome) → EndsReading o input.reads.read left_after input.lines → (o ≡ outcomes.Done → ⊥) → (o ≡ outcomes.WriteFault → ⊥)
        → EndsRetelling (IsText input.reached.wiki) o o taken taken
    ends outcomes.Done reads done write = absurd (done refl)
    ends outcomes.Usage reads done write = absurd reads
    ends outcomes.ReadFault reads done write = Appends-nil taken
    ends outcomes.WriteFault reads done write = absurd (write refl)
    ends outcomes.LinkFault reads done write = absurd reads
    ends outcomes.TooMuch reads done write = Appends-nil taken
    ends outcomes.Memory reads done write = Appends-nil taken

-- there was no memory for a wiki
pub Retells-none : (IsText : Holding → List ℕ → Type 0) (first : Recalling) (left taken : Option (List ℕ))
    → Retells IsText first left taken outcomes.Memory left taken
Retells-none IsText first left taken =
    Retells-stopped IsText first left taken outcomes.Memory left first (StepsInput-none first left first) (λ is. cc is) (λ is. cc is)

-- which ends a text that is written has not
pub writes_not : {E : Type 0} (text : Result (List ℕ) E) (outcome other : Outcome) (taken taken_after : Option (List ℕ))
    → EndsWriting text outcome taken taken_after → outcome ≡ other → EndsWriting text other taken taken_after
writes_not text outcome other taken taken_after ends is = subst (λ (o : Outcome). EndsWriting text o taken taken_after) is ends

pub no_read_end : {E : Type 0} (text : Result (List ℕ) E) (taken taken_after : Option (List ℕ)) → EndsWriting text outcomes.ReadFault taken taken_after → ⊥
no_read_end (Ok text) taken taken_after ends = ends
no_read_end (Err none) taken taken_after ends = ends

pub no_link_end : {E : Type 0} (text : Result (List ℕ) E) (taken taken_after : Option (List ℕ)) → EndsWriting text outcomes.LinkFault taken taken_after → ⊥
no_link_end (Ok text) taken taken_after ends = ends
no_link_end (Err none) taken taken_after ends = ends
