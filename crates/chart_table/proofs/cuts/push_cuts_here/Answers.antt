use Rattle.std.specs.Prelude.{option_map}
use Rattle.chart_table.specs.Cuts.{Halts}
use Rattle.chart_table.proofs.HeadLemmas.{among_none, heads_turn, heads_done}
use Rattle.chart_table.proofs.cuts.push_cuts_here.Goals as goal

pub loop-state-init : goal.loop-state-init
loop-state-init c = among_none c.args.trial.now.setting.now c.args.trial.now.rule.now
    (Halts c.args.trial.now.aim.now (option_map (λ e. e.now) c.args.next)) c.args.cuts.now

pub loop-state-preserved : goal.loop-state-preserved
loop-state-preserved c =
    heads_turn c.args.trial.now.setting.now c.args.trial.now.rule.now (Halts c.args.trial.now.aim.now (option_map (λ e. e.now) c.args.next))
    c.args.states.now c.loop-state.state-index
    c.state-item.result c.args.cuts.now c.loop-state.cuts c.push_cut_here.new.cuts c.loop-state-test.true c.state-item.is c.loop-state.invariant
    c.in_ok-push_cut_here.ensures

pub returns : goal.returns
returns c =
    heads_done c.args.trial.now.setting.now c.args.trial.now.rule.now (Halts c.args.trial.now.aim.now (option_map (λ e. e.now) c.args.next))
    c.args.states.now c.loop-state.state-index
    c.args.cuts.now c.loop-state.cuts c.loop-state-test.false c.loop-state.invariant
