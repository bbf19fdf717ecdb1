use Rattle.std.proofs.Common.{◌≡◌, take}
use Rattle.chart_trees.proofs.outcomes.binds.Given as goal

abbrev pub invariant-loop-pair : goal.invariant-loop-pair
invariant-loop-pair l = l.binds ≡ take l.pair-index l.values
