use Rattle.std.proofs.Common.{◌-◌, ◌+◌, length}
use Rattle.chart_table.proofs.rows.note.Given as goal

abbrev pub decreases-loop-newest : goal.decreases-loop-newest
decreases-loop-newest l = l.place-2 + 1 - length l.newest
