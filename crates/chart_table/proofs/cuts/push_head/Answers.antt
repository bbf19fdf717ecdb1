use Rattle.std.proofs.Common.{refl, ap, subst, rules}
use Rattle.derivation_trees.specs.Instances.{feats_under}
use Rattle.scopes.specs.declared.agreement.Test.{Test}
use Rattle.chart_table.specs.Cuts.{HasCut}
use Rattle.chart_table.proofs.HeadLemmas.{head_there, head_added}
use Rattle.chart_table.proofs.cuts.push_head.Goals as goal

pub returns-then-has_head : goal.returns-then-has_head
returns-then-has_head c =
    let values = feats_under c.args.bound.now c.args.trial.now.rule.now.head.feats in
    let has = subst (λ l. HasCut l c.args.number values) c.as_slice.ensures
    (subst (λ fs. HasCut c.as_slice.result.now c.args.number (feats_under c.args.bound.now fs)) c.as_slice-feats.ensures
    (c.has_head.ensures c.if-has_head.true)) in
    head_there c.args.trial.now.setting.now c.args.trial.now.rule.now c.args.number c.args.bound.now values c.args.cuts.now c.requires.settled refl has

pub returns-then-branch : goal.returns-then-branch
returns-then-branch c =
    head_added c.args.trial.now.setting.now c.args.trial.now.rule.now c.args.number c.args.bound.now c.in_ok-head.head.values c.args.cuts.now
    c.push_cut.new.cuts c.requires.settled
    (ap (λ (t : Test). t.values) c.in_ok-head.ensures) (c.in_ok-is_possible.ensures.0 (search rules)) c.in_ok-push_cut.ensures
