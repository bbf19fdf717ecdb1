use Rattle.std.proofs.Common.{◌≡◌, ℕ, take}
use Rattle.ace_to_owl.specs.Moves.{moved_by}
use Rattle.ace_to_owl.proofs.GroupLemmas.{gathered_to}
use Rattle.ace_to_owl.proofs.components.join.Given as goal

abbrev pub invariant-loop-referent : goal.invariant-loop-referent
invariant-loop-referent l = (n : ℕ) → moved_by l.moves n ≡ gathered_to (moved_by l.initial.moves) l.target (take l.referent-index l.group) n
