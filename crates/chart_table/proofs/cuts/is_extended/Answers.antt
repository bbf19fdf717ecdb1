use Rattle.chart_table.proofs.HeadLemmas.{all_tried}
use Rattle.chart_table.proofs.cuts.is_extended.Goals as goal

pub returns : goal.returns
returns c =
    all_tried c.args.trial.now.setting.now c.args.trial.now.rule.now c.args.bound.now
    (record { binds = c.in_ok-copy_bound.field-0; place = 0; list = c.empty.result })
    c.in_ok-ends.ends c.empty.result c.is_empty.result c.in_ok-copy_bound.ensures c.in_ok-ends.ensures c.is_empty.ensures
