use Rattle.std.proofs.Common.{rules}
use Rattle.chart_table.proofs.PlanLemmas.{plans_none, plans_turn, plans_done, listed_none}
use Rattle.chart_table.proofs.choices.plans_of.Goals as goal

pub loop-rule-init : goal.loop-rule-init
loop-rule-init c = record {
  known = listed_none c.args.grammar.now c.new-known.result c.new-known.ensures;
  plans = plans_none c.args.grammar.now c.as_slice-rule-items.result.now c.new-plans.result c.new-plans.ensures;
}

pub loop-rule-preserved : goal.loop-rule-preserved
loop-rule-preserved c = record {
  known = c.in_ok-plan_of.ensures.known;
  plans = plans_turn c.args.grammar.now c.as_slice-rule-items.result.now c.loop-rule.rule-index c.rule-item.result c.in_ok-plan_of.field-0 c.loop-rule.plans
      c.push.new.self c.loop-rule-test.true c.rule-item.is c.loop-rule.invariant.plans c.in_ok-plan_of.ensures.plan c.in_ok-push.ensures.ok;
}

pub returns : goal.returns
returns c =
    plans_done c.args.grammar.now c.as_slice-rule-items.result.now c.args.grammar.now.rules c.loop-rule.rule-index c.loop-rule.plans (search rules)
    c.loop-rule-test.false c.loop-rule.invariant.plans
