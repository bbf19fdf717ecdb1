use Rattle.chart_trees.proofs.LeastLemmas.{among_next, listed_next, listed_done, trees_in}
use Rattle.std.proofs.Common.{take}
use Rattle.chart_trees.proofs.skeletons.least_among.Goals as goal

pub loop-outcome-preserved : goal.loop-outcome-preserved
loop-outcome-preserved c =
    listed_next c.args.setting.now c.args.outcomes.now c.loop-outcome.outcome-index c.outcome-item.result c.in_ok-least.least c.loop-outcome-test.true
    c.outcome-item.is (c.in_ok-least.ensures (trees_in (take c.loop-outcome.outcome-index c.args.outcomes.now)) c.loop-outcome.invariant)

pub consider-requires : goal.consider-requires
consider-requires c =
    c.requires.sound c.outcome-item.result
    (among_next c.args.outcomes.now c.loop-outcome.outcome-index c.outcome-item.result c.loop-outcome-test.true c.outcome-item.is)

pub returns : goal.returns
returns c = listed_done c.args.setting.now c.args.outcomes.now c.loop-outcome.outcome-index c.loop-outcome.least c.loop-outcome-test.false
    c.loop-outcome.invariant
