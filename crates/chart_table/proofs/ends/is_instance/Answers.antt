use Rattle.std.proofs.Common.{◌∙◌}
use Rattle.chart_table.proofs.PlanLemmas.{planned_is}
use Rattle.chart_table.proofs.ends.is_instance.Goals as goal

pub returns : goal.returns
returns c = c.is_planned.ensures ∙ planned_is c.args.setting.now c.args.rule.now c.args.plan.now c.args.values.now c.requires
