use Rattle.std.proofs.Common.{rules, ap}
use Rattle.chart_table.specs.declared.states.State.{State}
use Rattle.chart_table.proofs.merging.is_state.Goals as goal

pub returns-then-same_bound : goal.returns-then-same_bound
returns-then-same_bound c = (λ t. search rules, λ h. c.is_same.ensures.1 (ap (λ (s : State). s.list) h))
