use Rattle.std.proofs.Common.{◌∙◌, subst}
use Rattle.chart_table.specs.Cuts.{HasHeads, IsOf}
use Rattle.chart_table.proofs.cuts.push_met.Goals as goal

pub returns : goal.returns
returns c =
    subst (λ bs. HasHeads c.args.trial.now.setting.now c.args.trial.now.rule.now (IsOf c.args.number bs) c.args.cuts.now c.push_heads.new.cuts)
    (c.as_slice.ensures ∙ c.in_ok-bounds.ensures)
    c.in_ok-push_heads.ensures
