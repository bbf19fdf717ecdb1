use Rattle.chart_trees.proofs.OutcomeLemmas.{ended_none, ended_turn, ended_done}
use Rattle.chart_trees.proofs.outcomes.push_ended.Goals as goal

pub loop-path-init : goal.loop-path-init
loop-path-init c = ended_none c.args.number c.args.rule.now c.args.values.now c.args.begun.now c.args.out.now

pub loop-path-preserved : goal.loop-path-preserved
loop-path-preserved c =
    ended_turn c.args.number c.args.rule.now c.args.values.now c.args.begun.now c.args.paths.now c.loop-path.path-index c.path-item.result
    c.in_ok-outcome.outcome c.args.out.now c.loop-path.out c.put.new.out c.loop-path-test.true c.path-item.is c.loop-path.invariant c.in_ok-outcome.ensures
    c.in_ok-put.ensures

pub returns : goal.returns
returns c =
    ended_done c.args.number c.args.rule.now c.args.values.now c.args.begun.now c.args.paths.now c.loop-path.path-index c.args.out.now c.loop-path.out
    c.loop-path-test.false c.loop-path.invariant
