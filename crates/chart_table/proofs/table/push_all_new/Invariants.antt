use Rattle.std.proofs.Common.{take}
use Rattle.chart_table.specs.Ends.{HasMore}
use Rattle.chart_table.proofs.table.push_all_new.Given as goal

abbrev pub invariant-loop-end : goal.invariant-loop-end
invariant-loop-end l = HasMore l.fn.out l.out (take l.end-index l.ends)
