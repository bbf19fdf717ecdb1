use Rattle.std.proofs.Common.{length}
use Rattle.chart_table.proofs.MergeLemmas.{Gathered}
use Rattle.chart_table.proofs.merging.merged.Given as goal

abbrev pub invariant-loop-state : goal.invariant-loop-state
invariant-loop-state l = Gathered l.fn.states l.rest l.out

abbrev pub decreases-loop-state : goal.decreases-loop-state
decreases-loop-state l = length l.rest
