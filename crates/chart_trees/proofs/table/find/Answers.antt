use Rattle.std.proofs.Common.{◌-◌, arith}
use Rattle.chart_trees.proofs.TableLemmas.{found_here}
use Rattle.chart_trees.proofs.table.find.Goals as goal

pub returns-then-is_row : goal.returns-then-is_row
returns-then-is_row c =
    found_here c.args.rows.now (c.loop-number.number - 1) c.index-rows-number.result c.args.asked.now c.args.place c.args.list.now (omega arith)
    c.index-rows-number.is (c.is_row.ensures.asked c.if-is_row.true) (c.is_row.ensures.place c.if-is_row.true) (c.is_row.ensures.list c.if-is_row.true)
