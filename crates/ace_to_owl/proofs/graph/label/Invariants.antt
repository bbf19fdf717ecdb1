use Rattle.std.proofs.Common.{◌≡◌, drop}
use Rattle.ace_to_owl.specs.Moves.{moved_by}
use Rattle.ace_to_owl.proofs.graph.label.Given as goal

abbrev pub invariant-loop-entry : goal.invariant-loop-entry
invariant-loop-entry l = moved_by (drop l.entry-index l.moves) l.label ≡ moved_by l.moves l.node
