use Rattle.std.proofs.Common.{◌≡◌, drop}
use Rattle.chart_table.specs.Choices.{first_feature}
use Rattle.chart_table.proofs.choices.first_feature.Given as goal

abbrev pub invariant-loop-feature : goal.invariant-loop-feature
invariant-loop-feature l = first_feature (drop l.feature-index l.terms) l.variable ≡ first_feature l.terms l.variable
