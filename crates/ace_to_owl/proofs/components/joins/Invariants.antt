use Rattle.std.proofs.Common.{◌≡◌, ℕ, ◌==◌, ◌≤◌, drop, length}
use Rattle.ace_to_owl.specs.Moves.{moved_by}
use Rattle.ace_to_owl.specs.Mapping.{joined}
use Rattle.ace_to_owl.proofs.components.joins.Given as goal

abbrev pub invariant-loop-left : goal.invariant-loop-left
invariant-loop-left l = record {
  joins : (q p : ℕ) → (moved_by l.moves q == moved_by l.moves p) ≡ joined (drop l.left l.groups) q p;
  within : l.left ≤ length l.groups;
}

abbrev pub decreases-loop-left : goal.decreases-loop-left
decreases-loop-left l = l.left
