use Rattle.consequences.proofs.known.Consequences.new.Goals as goal

pub invariant_of-result : goal.invariant_of-result
invariant_of-result c = record { forced = ∣ c.in_ok-branch.ensures ∣₁ }
