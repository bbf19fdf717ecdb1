use Rattle.std.proofs.Common.{◌≡◌, take}
use Rattle.chart_trees.proofs.paths.copy_pairs.Given as goal

abbrev pub invariant-loop-pair : goal.invariant-loop-pair
invariant-loop-pair l = l.copied ≡ take l.pair-index l.pairs
