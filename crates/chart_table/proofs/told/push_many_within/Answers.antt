use Rattle.std.proofs.Common.{arith, sym, subst}
use Rattle.std.specs.Prelude.{All}
use Rattle.std.proofs.lemmas.List.Elements.{All-nil}
use Rattle.chart_table.specs.Cuts.{MeetsCut, IsTold}
use Rattle.chart_table.proofs.HeadLemmas.{before_none, before_turn, before_done}
use Rattle.chart_table.proofs.told.push_many_within.Goals as goal

pub loop-cut-init : goal.loop-cut-init
loop-cut-init c = (
  before_none c.args.trial.now.setting.now c.args.trial.now.rule.now c.args.within.now (MeetsCut c.args.category.now c.args.bound.now) c.args.cuts.now,
  subst (All (IsTold c.args.trial.now.setting.now c.args.trial.now.rule.now c.args.category.now c.args.bound.now)) (sym c.new-told.ensures)
      (All-nil (IsTold c.args.trial.now.setting.now c.args.trial.now.rule.now c.args.category.now c.args.bound.now)),
)

pub loop-cut-preserved : goal.loop-cut-preserved
loop-cut-preserved c = (
  before_turn c.args.trial.now.setting.now c.args.trial.now.rule.now c.args.within.now (MeetsCut c.args.category.now c.args.bound.now)
      c.loop-cut.cut-index c.cut-item.result
      c.args.cuts.now c.loop-cut.cuts c.push_one_within.new.cuts c.loop-cut-test.true c.cut-item.is c.loop-cut.invariant.0 c.in_ok-push_one_within.ensures.cuts,
  c.in_ok-push_one_within.ensures.told,
)

pub returns : goal.returns
returns c =
    before_done c.args.trial.now.setting.now c.args.trial.now.rule.now c.args.within.now (MeetsCut c.args.category.now c.args.bound.now)
    c.loop-cut.cut-index c.args.cuts.now
    c.loop-cut.cuts c.loop-cut-test.false (omega arith) c.loop-cut.invariant.0
