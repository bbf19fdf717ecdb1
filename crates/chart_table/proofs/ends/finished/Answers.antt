use Rattle.std.proofs.Common.{◌≡◌, ◌∷◌, [], ◌∙◌, ap, subst}
use Rattle.std.specs.Prelude.{IfOk}
use Rattle.chart_table.specs.Ends.{as_terms}
use Rattle.chart_table.proofs.TurnLemmas.{finished_is}
use Rattle.chart_table.proofs.ends.finished.Goals as goal

pub returns : goal.returns
returns c =
    subst (λ l. IfOk c.finished_all.result (λ ends. ends ≡ l))
    (finished_is c.args.setting.now c.args.rule.now c.args.before.now c.args.state.now c.args.plan.now c.in_ok-terms.terms c.as_slice-3.result.now
    c.in_ok-one.one c.in_ok-bounds.bounds c.as_slice-4.result.now c.requires (c.in_ok-terms.ensures ∙ ap as_terms c.as_slice.ensures) c.as_slice-3.ensures
    (c.in_ok-one.ensures ∙ ap (λ b. b ∷ []) c.as_slice-2.ensures) c.in_ok-bounds.ensures c.as_slice-4.ensures) c.finished_all.ensures
