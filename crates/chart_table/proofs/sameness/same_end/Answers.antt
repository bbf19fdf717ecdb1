use Rattle.std.proofs.Common.{rules, ap}
use Rattle.chart_table.specs.declared.states.End.{End}
use Rattle.chart_table.proofs.sameness.same_end.Goals as goal

pub returns-then-same_values : goal.returns-then-same_values
returns-then-same_values c = (λ t. search rules, λ h. c.is_same.ensures.1 (ap (λ (e : End). e.tail) h))
