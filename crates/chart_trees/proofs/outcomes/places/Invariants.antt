use Rattle.std.proofs.Common.{◌≡◌, take}
use Rattle.chart_trees.proofs.outcomes.places.Given as goal

abbrev pub invariant-loop-pos : goal.invariant-loop-pos
invariant-loop-pos l = l.places ≡ take l.pos-index l.found
