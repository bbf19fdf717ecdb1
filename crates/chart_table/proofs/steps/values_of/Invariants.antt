use Rattle.std.proofs.Common.{◌≡◌, take, length}
use Rattle.derivation_trees.specs.Instances.{feats_under}
use Rattle.chart_table.proofs.steps.values_of.Given as goal

abbrev pub invariant-loop-feature : goal.invariant-loop-feature
invariant-loop-feature l = (l.vals ≡ feats_under l.bound (take l.feature-index l.feats)) × (length l.vals ≡ l.feature-index)
