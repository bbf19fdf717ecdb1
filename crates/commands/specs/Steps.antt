-- What the calls below the commands come to. Only private calls speak of it.
use Rattle.std.specs.Prelude.{◌≡◌, ◌⊎◌, ◌≤◌, ℕ, Bool, IsTrue, List, [], length, take, Option, Result, Ok, Err}
use Rattle.std.specs.Io.KnownBytes.{Appends}
use Rattle.wiki_io.specs.declared.links.Event.{Event}
use Rattle.wiki_io.specs.Lines.{InputLine}
use Rattle.wiki_talk.specs.declared.requests.LineRequest.{LineRequest}
use Rattle.wiki_talk.specs.declared.replies.Reply.{Reply}
use Rattle.wiki_talk.specs.Turns.{Exchange}
use Rattle.serving.specs.declared.serving.Served.{Served}
use Rattle.serving.specs.declared.serving.Served.TheVariants as served
use Rattle.serving.specs.Events.{Outside, Ended}
use Rattle.owl_intake.specs.declared.input.CutShort.{CutShort}
use Rattle.owl_intake.specs.declared.input.CutShort.TheVariants as cut
use Rattle.making.specs.declared.making.Made.{Made}
use Rattle.making.specs.declared.making.Made.TheVariants as made
use Rattle.command_line.specs.declared.command.Outcome.{Outcome}
use Rattle.command_line.specs.declared.command.Outcome.TheVariants as outcomes
use Rattle.commands.specs.Lines.{StepsLines}
use Rattle.commands.specs.Theorem.{ReadsLines}
use Rattle.commands.specs.Wiki.{Holding, Recalling, KeptStep}

-- the lines that were read were stepped, and nothing was written; where that is done, the wiki is left in the state `last`
pub record StepsInput (first : Recalling) (left : Option (List ℕ)) (outcome : Outcome) (left_after : Option (List ℕ)) (last : Recalling) : Type 0 where
  pub lines : List InputLine
  pub reads : ReadsLines left outcome left_after lines
  pub exchanges : List (Exchange LineRequest Reply)
  pub reached : Recalling
  pub steps : StepsLines first lines exchanges reached
  pub last_is : outcome ≡ outcomes.Done → reached ≡ last

-- how the program ends where serving ends so
abbrev pub outcome_of : Served → Outcome
outcome_of served.Done = outcomes.Done
outcome_of served.LinkFault = outcomes.LinkFault
outcome_of served.JournalFault = outcomes.WriteFault
outcome_of served.Memory = outcomes.Memory

-- the link listens where it was to, and serving ended so; or it could not, and no event was handed in, and nothing was written or sent
abbrev pub ServesLink : Holding → ℕ → Outside → Option (List Event) → Outcome → Bool → Outside → Option (List Event) → Option (List Event) → Type 0
ServesLink first most outside handed outcome listens outside_after handed_after coming_after =
    (IsTrue listens × ((served_so : Served) × (outcome ≡ outcome_of served_so)
    × Ended KeptStep first outside handed most handed_after served_so coming_after outside_after))
    ⊎ ((outcome ≡ outcomes.LinkFault) × (outside_after ≡ outside) × (handed_after ≡ handed))

-- What was written where a text was made, or there was no memory for it: the text, a front of it where a write failed, and nothing.
abbrev pub EndsWriting : {E : Type 0} → Result (List ℕ) E → Outcome → Option (List ℕ) → Option (List ℕ) → Type 0
EndsWriting (Ok text) outcomes.Done taken taken_after = Appends taken taken_after text
EndsWriting (Ok text) outcomes.WriteFault taken taken_after = (n : ℕ) × (n ≤ length text) × Appends taken taken_after (take n text)
EndsWriting (Err none) outcomes.Memory taken taken_after = Appends taken taken_after []
EndsWriting made outcome taken taken_after = ⊥

-- how the program ends where the input was not read to its end
abbrev pub cut_outcome : CutShort → Outcome
cut_outcome cut.ReadFault = outcomes.ReadFault
cut_outcome cut.TooMuch = outcomes.TooMuch
cut_outcome cut.Memory = outcomes.Memory

-- how the program ends where making ends so
abbrev pub made_outcome : Made → Outcome
made_outcome made.Done = outcomes.Done
made_outcome made.WriteFault = outcomes.WriteFault
made_outcome made.Memory = outcomes.Memory
