use Rattle.std.proofs.Common.{◌≡◌, ℕ, ◌≤◌, false, map, drop, length}
use Rattle.ace_to_owl.specs.Answers.{part_shown}
use Rattle.ace_to_owl.specs.Parts.{has_cycle}
use Rattle.ace_to_owl.specs.Moves.{moved_by}
use Rattle.ace_to_owl.proofs.Labels.{label}
use Rattle.ace_to_owl.proofs.graph.tree_fault.Given as goal

abbrev pub invariant-loop-left : goal.invariant-loop-left
invariant-loop-left l = record {
  labels : (n : ℕ) → moved_by l.moves n ≡ label (drop l.left (map part_shown l.parts)) n;
  forest : has_cycle (drop l.left (map part_shown l.parts)) ≡ false;
  within : l.left ≤ length l.parts;
}

abbrev pub decreases-loop-left : goal.decreases-loop-left
decreases-loop-left l = l.left
