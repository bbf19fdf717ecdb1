use Rattle.std.proofs.Common.{◌≡◌, drop, ◌++◌}
use Rattle.chart_table.specs.Steps.{completed}
use Rattle.chart_table.proofs.steps.complete.Given as goal

abbrev pub invariant-loop-feature : goal.invariant-loop-feature
invariant-loop-feature l = l.out ++ completed l.feats (drop l.feature-index l.features) l.next ≡ completed l.feats l.features l.fn.number
