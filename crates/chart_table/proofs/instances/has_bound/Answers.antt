use Rattle.std.proofs.Common.{rules, ◌∙◌, sym}
use Rattle.chart_table.proofs.InstanceLemmas.{seen_more}
use Rattle.chart_table.proofs.instances.has_bound.Goals as goal

pub returns-then-same_bound : goal.returns-then-same_bound
returns-then-same_bound c =
    λ _. seen_more c.args.bounds.now c.loop-other.other-index c.args.bound.now c.other-item.result c.loop-other-test.true c.other-item.is
    (sym c.as_slice.ensures ∙ c.same_bound.ensures.0 (search rules))
