use Rattle.std.proofs.Common.{subst}
use Rattle.chart_table.specs.Merging.{HasState}
use Rattle.chart_table.proofs.MergeLemmas.{also_there, also_added}
use Rattle.chart_table.proofs.merging.push_new.Goals as goal

pub returns-then-has_state : goal.returns-then-has_state
returns-then-has_state c =
    also_there c.args.out.now c.args.state (subst (λ l. HasState l c.args.state) c.as_slice.ensures (c.has_state.ensures c.if-has_state.true))

pub returns : goal.returns
returns c = also_added c.args.out.now c.push.new.self c.args.state c.in_ok-push.ensures.ok
