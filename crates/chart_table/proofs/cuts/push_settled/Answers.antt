use Rattle.std.proofs.Common.{◌∷◌, [], sym, subst}
use Rattle.chart_table.specs.Cuts.{HasHeads, IsOf, Settles}
use Rattle.chart_table.proofs.HeadLemmas.{of_none, of_turn, of_done, settles_at}
use Rattle.chart_table.proofs.cuts.push_settled.Goals as goal

pub loop-bound-init : goal.loop-bound-init
loop-bound-init c = of_none c.args.trial.now.setting.now c.args.trial.now.rule.now c.args.number c.args.cuts.now

pub loop-bound-preserved : goal.loop-bound-preserved
loop-bound-preserved c =
    of_turn c.args.trial.now.setting.now c.args.trial.now.rule.now c.args.number c.args.bounds.now c.loop-bound.bound-index c.bound-item.result
    c.args.cuts.now c.loop-bound.cuts
    c.push_head.new.cuts c.loop-bound-test.true c.bound-item.is c.loop-bound.invariant
    (subst (λ b. HasHeads c.args.trial.now.setting.now c.args.trial.now.rule.now (IsOf c.args.number (b ∷ [])) c.loop-bound.cuts c.push_head.new.cuts)
    c.as_slice.ensures
    c.in_ok-push_head.ensures)

pub returns : goal.returns
returns c =
    of_done c.args.trial.now.setting.now c.args.trial.now.rule.now c.args.number c.args.bounds.now c.loop-bound.bound-index c.args.cuts.now
    c.loop-bound.cuts
    c.loop-bound-test.false c.loop-bound.invariant

pub push_head-requires-clause-settled : goal.push_head-requires-clause-settled
push_head-requires-clause-settled c =
    subst (Settles c.args.trial.now.rule.now) (sym c.as_slice.ensures)
    (settles_at c.args.trial.now.rule.now c.args.bounds.now c.loop-bound.bound-index c.bound-item.result c.loop-bound-test.true c.bound-item.is
    c.requires.settled)
