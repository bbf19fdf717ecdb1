use Rattle.std.proofs.Common.{◌≡◌, take}
use Rattle.chart_trees.proofs.paths.copy_found.Given as goal

abbrev pub invariant-loop-pos : goal.invariant-loop-pos
invariant-loop-pos l = l.copied ≡ take l.pos-index l.found
