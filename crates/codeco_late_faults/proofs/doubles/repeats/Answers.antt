use Rattle.std.proofs.Common.{◌∙◌, sym, arith}
use Rattle.codeco_late_faults.proofs.OrderLemmas.{repeats_stop, repeats_done}
use Rattle.codeco_late_faults.proofs.doubles.repeats.Goals as goal

pub returns-then-is_last : goal.returns-then-is_last
returns-then-is_last c =
    repeats_stop c.loop-feature.last c.args.feats.now c.loop-feature.feature-index _ c.requires c.loop-feature-test.true c.loop-feature.invariant
    (sym c.is_last.ensures ∙ c.if-is_last.true)

pub returns : goal.returns
returns c = repeats_done c.loop-feature.last c.args.feats.now c.loop-feature.feature-index c.requires (omega arith) c.loop-feature.invariant
