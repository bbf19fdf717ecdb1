use Rattle.agenda.proofs.Waits.{all_more}
use Rattle.agenda.proofs.queue.insert_all.Goals as goal

pub loop-node-preserved : goal.loop-node-preserved
loop-node-preserved c = record {
  there = all_more c.args.nodes.now c.loop-node.node-index _ c.loop-node-test.true c.loop-node.due c.insert.new.due c.loop-node.invariant.there
      c.in_ok-insert.ensures.kept c.in_ok-insert.ensures.there;
  kept = λ x h. c.in_ok-insert.ensures.kept x (c.loop-node.invariant.kept x h);
}
