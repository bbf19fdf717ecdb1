use Rattle.std.proofs.Common.{◌≡◌, drop}
use Rattle.chart_table.specs.Branches.{closing_patterns}
use Rattle.chart_table.specs.Choices.{choices}
use Rattle.chart_table.proofs.steps.close_patterns.Given as goal

abbrev pub invariant-loop-pattern : goal.invariant-loop-pattern
invariant-loop-pattern l = closing_patterns (choices l.setting l.plan.terms l.plan.places l.plan.own) (drop l.pattern-index l.patterns) l.all
    ≡ closing_patterns (choices l.setting l.plan.terms l.plan.places l.plan.own) l.patterns l.fn.bounds
