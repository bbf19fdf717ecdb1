use Rattle.chart_table.proofs.EndLemmas.{more_push}
use Rattle.chart_table.proofs.TurnLemmas.{more_seen}
use Rattle.chart_table.proofs.table.push_new.Goals as goal

pub returns-then-has_end : goal.returns-then-has_end
returns-then-has_end c =
    more_seen c.args.out.now c.as_slice.result.now c.args.end c.as_slice.ensures (c.has_end.ensures c.if-has_end.true)

pub returns-in_ok-push : goal.returns-in_ok-push
returns-in_ok-push c = more_push c.args.out.now c.push.new.self c.args.end c.in_ok-push.ensures.ok
