use Rattle.std.proofs.Common.{take}
use Rattle.chart_trees.specs.Outcomes.{HasEnded}
use Rattle.chart_trees.proofs.outcomes.push_ended.Given as goal

abbrev pub invariant-loop-path : goal.invariant-loop-path
invariant-loop-path l = HasEnded l.number l.rule l.values l.begun (take l.path-index l.paths) l.fn.out l.out
