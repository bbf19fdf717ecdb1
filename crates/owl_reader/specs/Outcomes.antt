-- What the calls of a reading answer. Only calls inside the crate speak of it.
use Rattle.std.specs.Prelude.{◌≡◌, ℕ, Result, Ok, Err}
use Rattle.owl_reader.specs.declared.faults.Trouble.{Trouble}
use Rattle.owl_reader.specs.declared.faults.Refusal.{Refusal}
use Rattle.owl_reader.specs.declared.faults.Refusal.TheVariants as refusal
use Rattle.owl_reader.specs.declared.faults.OwlFault.{OwlFault}
use Rattle.owl_reader.specs.declared.faults.OwlFault.TheVariants as fault
use Rattle.owl_reader.specs.Reading.{State, fault_at}

-- a call did what the step says, unless memory ran out
abbrev pub Takes : {A : Type 0} → Result State Trouble → Result A Refusal → State → Type 0
Takes step (Ok x) new = step ≡ Ok new
Takes step (Err refusal.Memory) new = Unit {0}
Takes step (Err (refusal.Trouble t)) new = step ≡ Err t

-- what a call says of a token at a place
abbrev pub RefusesAt : Result State Trouble → ℕ → OwlFault → Type 0
RefusesAt step at fault.Memory = Unit {0}
RefusesAt step at e = (t : Trouble) × (step ≡ Err t) × (e ≡ fault_at t at)

abbrev pub TakesAt : {A : Type 0} → Result State Trouble → ℕ → Result A OwlFault → State → Type 0
TakesAt step at (Ok x) new = step ≡ Ok new
TakesAt step at (Err e) new = RefusesAt step at e
