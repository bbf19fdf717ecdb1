use Rattle.std.proofs.Common.{◌≡◌, take}
use Rattle.derivation_trees.specs.Instances.{feats_under}
use Rattle.chart_table.proofs.cuts.is_under.Given as goal

abbrev pub invariant-loop-place : goal.invariant-loop-place
invariant-loop-place l = take l.place l.values ≡ feats_under l.bound (take l.place l.feats)
