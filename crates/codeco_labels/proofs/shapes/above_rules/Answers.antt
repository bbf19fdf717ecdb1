use Rattle.std.proofs.Common.{arith}
use Rattle.codeco_labels.proofs.BoundLemmas.{rule_more}
use Rattle.codeco_labels.proofs.shapes.above_rules.Goals as goal

pub loop-rule-preserved : goal.loop-rule-preserved
loop-rule-preserved c = record {
  most = c.above_rule-above.ensures.most;
  least = omega arith;
  below = rule_more c.loop-rule.above c.above_rule-above.result c.args.rules.now c.loop-rule.rule-index c.rule-item.result c.above_rule-above.ensures.least
      c.loop-rule-test.true c.rule-item.is c.loop-rule.invariant.below c.above_rule-above.ensures.below;
}
