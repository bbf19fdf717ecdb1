use Rattle.std.proofs.Common.{length, ap, subst, arith}
use Rattle.std.specs.Prelude.{option_map}
use Rattle.chart_table.specs.Cuts.{HasHeads, OneBefore, MeetsOne}
use Rattle.chart_table.proofs.HeadLemmas.{halts_here, halts_not}
use Rattle.chart_table.proofs.cuts.push_cut_here.Goals as goal

pub returns-then-state-aim : goal.returns-then-state-aim
returns-then-state-aim c =
    let next = option_map (λ e. e.now) c.args.next in
    let asked = subst (λ asks. HasHeads c.args.trial.now.setting.now c.args.trial.now.rule.now
    (OneBefore asks (MeetsOne next c.as_slice.result.now) (length asks)) c.args.cuts.now
    c.push_asked.new.cuts) (ap (λ a. a.asks) c.aim.view_is) c.in_ok-push_asked.ensures in
    halts_here c.args.trial.now.setting.now c.args.trial.now.aim.now c.args.trial.now.rule.now next c.args.state.now c.as_slice.result.now
    c.args.cuts.now c.push_asked.new.cuts
    (omega (arith, ap (λ a. a.halt) c.aim.view_is)) c.as_slice.ensures asked

pub returns : goal.returns
returns c =
    halts_not c.args.trial.now.setting.now c.args.trial.now.aim.now c.args.trial.now.rule.now (option_map (λ e. e.now) c.args.next) c.args.state.now
    c.args.cuts.now
    (omega (arith, ap (λ a. a.halt) c.aim.view_is))
