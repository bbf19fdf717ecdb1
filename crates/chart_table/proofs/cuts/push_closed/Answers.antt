use Rattle.std.proofs.Common.{◌∷◌, [], ◌∙◌, ap, sym, subst}
use Rattle.chart_table.specs.Branches.{closing}
use Rattle.chart_table.specs.Choices.{choices}
use Rattle.chart_table.specs.Cuts.{AllSettle}
use Rattle.chart_table.proofs.HeadLemmas.{all_settle, closed_heads}
use Rattle.chart_table.proofs.cuts.push_closed.Goals as goal

pub push_settled-requires-clause-settled : goal.push_settled-requires-clause-settled
push_settled-requires-clause-settled c =
    let plan = c.args.trial.now.plan.now in
    subst (AllSettle c.args.trial.now.rule.now) (sym c.as_slice.ensures)
    (all_settle c.args.trial.now.rule.now (choices c.args.trial.now.setting.now plan.terms plan.places plan.own) c.as_slice-feats.result.now
    (c.args.bound.now ∷ [])
    c.in_ok-settled.settled
    c.as_slice-feats.ensures
    (c.in_ok-settled.ensures ∙ ap (closing (choices c.args.trial.now.setting.now plan.terms plan.places plan.own) c.as_slice-feats.result.now)
    c.in_ok-one.ensures))

pub returns : goal.returns
returns c =
    closed_heads c.args.trial.now.setting.now c.args.trial.now.rule.now c.args.trial.now.plan.now c.args.number c.as_slice-feats.result.now
    (c.args.bound.now ∷ []) c.in_ok-settled.settled
    c.as_slice.result.now c.args.cuts.now c.push_settled.new.cuts c.requires c.as_slice-feats.ensures
    (c.in_ok-settled.ensures ∙ ap (closing
    (choices c.args.trial.now.setting.now c.args.trial.now.plan.now.terms c.args.trial.now.plan.now.places c.args.trial.now.plan.now.own)
    c.as_slice-feats.result.now)
    c.in_ok-one.ensures) c.as_slice.ensures
    c.in_ok-push_settled.ensures
