use Rattle.std.proofs.Common.{◌≤◌}
use Rattle.tableau_rules.specs.declared.step.Closed.TheViews.{size-Closed}
use Rattle.explain.proofs.tracing.follow.Given as goal

abbrev pub invariant-loop-step : goal.invariant-loop-step
invariant-loop-step l = size-Closed l.tree ≤ size-Closed l.closed
