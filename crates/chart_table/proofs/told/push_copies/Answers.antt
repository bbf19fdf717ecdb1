use Rattle.chart_table.proofs.ToldLemmas.{copies_none, copies_turn, copies_done}
use Rattle.chart_table.proofs.told.push_copies.Goals as goal

pub loop-head-init : goal.loop-head-init
loop-head-init c = copies_none c.args.number c.args.cuts.now

pub loop-head-preserved : goal.loop-head-preserved
loop-head-preserved c =
    copies_turn c.args.number c.args.heads.now c.loop-head.head-index c.head-item.result c.args.cuts.now c.loop-head.cuts c.push_copy.new.cuts
    c.loop-head-test.true c.head-item.is c.loop-head.invariant c.in_ok-push_copy.ensures

pub returns : goal.returns
returns c = copies_done c.args.number c.args.heads.now c.loop-head.head-index c.args.cuts.now c.loop-head.cuts c.loop-head-test.false c.loop-head.invariant
