-- How making ends.
use Rattle.std.proofs.Common.{◌≡◌, ℕ, List, Option, refl, sym, subst}
use Rattle.making.specs.declared.making.Made.{Made}
use Rattle.making.specs.declared.making.Made.TheVariants as made
use Rattle.making.specs.Making.{Makes}
use Rattle.command_line.specs.declared.command.Outcome.{Outcome}
use Rattle.command_line.specs.declared.command.Outcome.TheVariants as outcomes
use Rattle.commands.specs.Steps.{made_outcome}
use Rattle.commands.specs.Theorem.{MakesSummary}
use Rattle.commands.specs.Wiki.{Holding, KeptStep}

made_so_far : (first : Holding) (count seed : ℕ) (taken : Option (List ℕ)) (made_so : Made) (taken_after : Option (List ℕ))
    → Makes KeptStep first count seed taken made_so taken_after → MakesSummary first count seed taken (made_outcome made_so) taken_after
made_so_far first count seed taken made.Done taken_after makes = makes
made_so_far first count seed taken made.WriteFault taken_after makes = makes
made_so_far first count seed taken made.Memory taken_after makes = makes

pub made_summary : (first : Holding) (count seed : ℕ) (taken : Option (List ℕ)) (made_so : Made) (outcome : Outcome) (taken_after : Option (List ℕ))
    → outcome ≡ made_outcome made_so → Makes KeptStep first count seed taken made_so taken_after
    → MakesSummary first count seed taken outcome taken_after
made_summary first count seed taken made_so outcome taken_after is makes =
    subst (λ (o : Outcome). MakesSummary first count seed taken o taken_after) (sym is)
    (made_so_far first count seed taken made_so taken_after makes)

pub made_fault : (made_so : Made) → outcomes.WriteFault ≡ made_outcome made_so → made_so ≡ made.WriteFault
made_fault made.Done is = absurd (cc is)
made_fault made.WriteFault is = refl
made_fault made.Memory is = absurd (cc is)
