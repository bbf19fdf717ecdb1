use Rattle.std.proofs.Common.{◌≡◌, ◌≤◌, ◌+◌, ◌-◌, ◌++◌, drop, map, length, []}
use Rattle.derivation_trees.specs.Instances.{same_numbers}
use Rattle.derivation_trees.proofs.variables.have_numbers.Given as goal

abbrev pub invariant-loop-place : goal.invariant-loop-place
invariant-loop-place l =
    (l.place ≤ length l.numbers) × (same_numbers (map (λ p. p.0) (drop l.place l.values)) (drop l.place l.numbers)
    ≡ same_numbers (map (λ p. p.0) l.values) l.numbers)
