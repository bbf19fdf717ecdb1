use Rattle.std.proofs.Common.{◌∙◌, sym}
use Rattle.derivation_trees.specs.Instances.{feats_under}
use Rattle.chart_table.proofs.HeadLemmas.{cut_there}
use Rattle.chart_table.proofs.cuts.has_head.Goals as goal

pub returns-then-is_under : goal.returns-then-is_under
returns-then-is_under c =
    λ _. cut_there c.args.cuts.now c.loop-cut.cut-index c.cut-item.result c.args.number (feats_under c.args.bound.now c.args.feats.now) c.loop-cut-test.true
    c.cut-item.is c.if-cut-number.true (sym c.as_slice.ensures ∙ c.is_under.ensures c.if-is_under.true)
