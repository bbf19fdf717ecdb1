use Rattle.std.proofs.Common.{take}
use Rattle.chart_table.specs.Choices.{EachPlan}
use Rattle.chart_table.specs.Features.{AreListed}
use Rattle.chart_table.proofs.choices.plans_of.Given as goal

abbrev pub invariant-loop-rule : goal.invariant-loop-rule
invariant-loop-rule l =
    record {
      known : AreListed l.grammar l.known;
      plans : EachPlan l.grammar (take l.rule-index l.rule-items) l.plans;
    }
