use Rattle.std.proofs.Common.{arith}
use Rattle.codeco_labels.proofs.BoundLemmas.{element_more}
use Rattle.codeco_labels.proofs.shapes.above_rule.Goals as goal

pub loop-element-preserved : goal.loop-element-preserved
loop-element-preserved c = record {
  most = c.above_element-above.ensures.most;
  least = omega arith;
  head = omega arith;
  children = element_more c.loop-element.above c.above_element-above.result _ c.loop-element.element-index c.element-item.result
      c.above_element-above.ensures.least c.loop-element-test.true c.element-item.is c.loop-element.invariant.children c.above_element-above.ensures.below;
}
