use Rattle.std.proofs.Common.{◌∷◌, [], subst}
use Rattle.chart_table.specs.Ends.{HasMore}
use Rattle.chart_table.proofs.EndLemmas.{more_none}
use Rattle.chart_table.proofs.TurnLemmas.{ends_turn, more_done}
use Rattle.chart_table.proofs.table.push_all_new.Goals as goal

pub loop-end-init : goal.loop-end-init
loop-end-init c = more_none c.args.out.now

pub loop-end-preserved : goal.loop-end-preserved
loop-end-preserved c =
    ends_turn c.args.out.now c.loop-end.out c.push_new.new.out c.args.ends.now c.loop-end.end-index c.end-item.result c.loop-end-test.true c.end-item.is
    c.loop-end.invariant (subst (λ x. HasMore c.loop-end.out c.push_new.new.out (x ∷ [])) c.in_ok-copy_end.ensures c.in_ok-push_new.ensures)

pub returns : goal.returns
returns c = more_done c.args.out.now c.loop-end.out c.args.ends.now c.loop-end.end-index c.loop-end-test.false c.loop-end.invariant
