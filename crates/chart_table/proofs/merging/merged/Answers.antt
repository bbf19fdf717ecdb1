use Rattle.chart_table.proofs.MergeLemmas.{gathered_more, gathered_done}
use Rattle.chart_table.proofs.merging.merged.Goals as goal

pub loop-state-preserved : goal.loop-state-preserved
loop-state-preserved c =
    gathered_more c.args.states c.loop-state.rest c.pop.new.self c.loop-state.out c.push_new.new.out c.in-Some.state c.in-Some.ensures c.loop-state.invariant
    c.in_ok-push_new.ensures

pub returns : goal.returns
returns c = gathered_done c.args.states c.loop-state.rest c.loop-state.out c.in_default.ensures.0 c.loop-state.invariant
