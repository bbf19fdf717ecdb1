use Rattle.std.proofs.Common.{◌≡◌, take, map}
use Rattle.chart_table.specs.Branches.{marked}
use Rattle.chart_table.proofs.steps.marked_feats.Given as goal

abbrev pub invariant-loop-feature : goal.invariant-loop-feature
invariant-loop-feature l = l.feats ≡ map marked (take l.feature-index l.taken)
