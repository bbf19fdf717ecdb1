use Rattle.std.proofs.Common.{◌≡◌, ℕ, ◌+◌, ◌-◌, [], length}
use Rattle.std.specs.Prelude.{slice_index_or}
use Rattle.agenda.proofs.waiting.reach.Given as goal

abbrev pub invariant-loop-alloc : goal.invariant-loop-alloc
invariant-loop-alloc l = (z : ℕ) → slice_index_or l.waiting.items z [] ≡ slice_index_or l.initial.waiting.items z []

abbrev pub decreases-loop-alloc : goal.decreases-loop-alloc
decreases-loop-alloc l = (l.node + 1) - length l.waiting.items
