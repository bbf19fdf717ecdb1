use Rattle.chart_trees.proofs.EarliestLemmas.{so_far_none, so_far_more, so_far_done, stand_same}
use Rattle.chart_trees.proofs.earliest.earliest.Goals as goal

pub loop-path-init : goal.loop-path-init
loop-path-init c = so_far_none c.args.paths c.new-out.result c.new-out.ensures

pub loop-path-preserved : goal.loop-path-preserved
loop-path-preserved c =
    so_far_more c.args.paths c.loop-path.rest c.pop.new.self c.loop-path.out c.put.new.out c.in-Some.path c.in-Some.ensures c.loop-path.invariant
    c.in_ok-put.ensures

pub returns : goal.returns
returns c = so_far_done c.args.paths c.loop-path.rest c.loop-path.out c.in_default.ensures.0 c.loop-path.invariant

pub returns-then-len-lt2 : goal.returns-then-len-lt2
returns-then-len-lt2 c = stand_same c.args.paths
