use Rattle.std.proofs.Common.{◌≡◌, take}
use Rattle.derivation_trees.proofs.sketch.copy_positions.Given as goal

abbrev pub invariant-loop-pos : goal.invariant-loop-pos
invariant-loop-pos l = l.copied ≡ take l.pos-index l.found
