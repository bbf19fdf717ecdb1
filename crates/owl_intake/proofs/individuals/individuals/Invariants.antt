use Rattle.std.proofs.Common.{◌≡◌, take}
use Rattle.owl_intake.specs.Checked.{individuals}
use Rattle.owl_intake.proofs.individuals.individuals.Given as goal

-- the individuals so far
abbrev pub invariant-loop-place : goal.invariant-loop-place
invariant-loop-place l = l.names ≡ individuals (take l.place l.entities)
