use Rattle.std.proofs.Common.{ℕ, List, ◌≤◌, ◌-◌, length}
use Rattle.owl_reader.specs.Reading.{State}
use Rattle.owl_reader.specs.Views.{state_of}
use Rattle.owl_reader.proofs.Runs.{Leads}
use Rattle.owl_reader.proofs.reading.read_front.Given as goal

pub record Stands (front : List ℕ) (at : ℕ) (s : State) : Type 0 where
  pub within : at ≤ length front
  pub leads : Leads front at s

abbrev pub invariant-loop-token : goal.invariant-loop-token
invariant-loop-token l = Stands l.front l.at (state_of l.reader)

abbrev pub decreases-loop-token : goal.decreases-loop-token
decreases-loop-token l = length l.front - l.at
