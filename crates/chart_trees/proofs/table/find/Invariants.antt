use Rattle.std.proofs.Common.{◌≤◌, length}
use Rattle.chart_trees.proofs.table.find.Given as goal

abbrev pub decreases-loop-number : goal.decreases-loop-number
decreases-loop-number l = l.number

abbrev pub invariant-loop-number : goal.invariant-loop-number
invariant-loop-number l = l.number ≤ length l.rows
