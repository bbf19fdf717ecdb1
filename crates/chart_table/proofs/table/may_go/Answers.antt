use Rattle.std.proofs.Common.{ap}
use Rattle.chart_table.proofs.IdleLemmas.{idle_is}
use Rattle.chart_table.proofs.table.may_go.Goals as goal

pub returns : goal.returns
returns c =
    λ off. idle_is c.args.trial.now.setting.now c.args.trial.now.aim.now c.args.trial.now.rule.now c.args.place c.aim.inside.halt
    c.as_slice.result.now c.may_start.result
    (ap (λ a. a.halt) c.aim.view_is) c.as_slice.ensures c.if-place-aim.false c.may_start.ensures off
