use Rattle.std.proofs.Common.{◌∷◌, [], ◌∙◌, ap, subst}
use Rattle.std.specs.Prelude.{OnOk}
use Rattle.chart_table.specs.Ends.{as_terms}
use Rattle.chart_table.specs.Instances.{HasMore}
use Rattle.chart_table.proofs.InstanceLemmas.{closed_is}
use Rattle.chart_table.proofs.instances.push_state.Goals as goal

pub returns : goal.returns
returns c =
    let made = closed_is c.args.trial.now.setting.now c.args.trial.now.rule.now c.args.state.now c.args.trial.now.plan.now c.as_slice-5.result.now
    c.in_ok-terms.terms c.as_slice-3.result.now
    c.in_ok-one.one c.in_ok-bounds.bounds c.as_slice-4.result.now c.requires c.as_slice-5.ensures (c.in_ok-terms.ensures ∙ ap as_terms c.as_slice.ensures)
    c.as_slice-3.ensures (c.in_ok-one.ensures ∙ ap (λ b. b ∷ []) c.as_slice-2.ensures) c.in_ok-bounds.ensures c.as_slice-4.ensures in
    subst (λ l. OnOk c.push_bounds.result (HasMore c.args.out.now c.push_bounds.new.out l)) made c.push_bounds.ensures
