use Rattle.std.proofs.Common.{take}
use Rattle.chart_table.specs.Cuts.{HasCopies}
use Rattle.chart_table.proofs.told.push_copies.Given as goal

abbrev pub invariant-loop-head : goal.invariant-loop-head
invariant-loop-head l = HasCopies l.number (take l.head-index l.heads) l.fn.cuts l.cuts
