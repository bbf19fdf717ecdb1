use Rattle.chart_table.proofs.HeadLemmas.{cut_pushed}
use Rattle.chart_table.proofs.cuts.push_cut.Goals as goal

pub returns : goal.returns
returns c = cut_pushed c.args.cuts.now c.push.new.self (record { ask = c.args.number; mark = c.mark_of-mark.result; values = c.args.values })
    c.in_ok-push.ensures.ok
