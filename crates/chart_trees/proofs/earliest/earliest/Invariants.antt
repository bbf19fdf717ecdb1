use Rattle.std.proofs.Common.{length}
use Rattle.chart_trees.proofs.EarliestLemmas.{SoFar}
use Rattle.chart_trees.proofs.earliest.earliest.Given as goal

abbrev pub invariant-loop-path : goal.invariant-loop-path
invariant-loop-path l = SoFar l.fn.paths l.rest l.out

abbrev pub decreases-loop-path : goal.decreases-loop-path
decreases-loop-path l = length l.rest
