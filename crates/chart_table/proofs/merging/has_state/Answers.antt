use Rattle.chart_table.proofs.MergeLemmas.{state_there}
use Rattle.chart_table.proofs.merging.has_state.Goals as goal

pub returns-then-is_state : goal.returns-then-is_state
returns-then-is_state c =
    λ _. state_there c.args.states.now c.loop-other.other-index c.other-item.result c.args.state.now c.loop-other-test.true c.other-item.is
    (c.is_state.ensures.0 c.if-is_state.true)
