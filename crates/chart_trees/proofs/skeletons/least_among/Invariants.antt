use Rattle.std.proofs.Common.{take}
use Rattle.derivations.specs.Listed.{LeastOf}
use Rattle.chart_trees.proofs.LeastLemmas.{trees_in}
use Rattle.chart_trees.proofs.skeletons.least_among.Given as goal

abbrev pub invariant-loop-outcome : goal.invariant-loop-outcome
invariant-loop-outcome l = LeastOf l.setting (trees_in (take l.outcome-index l.outcomes)) l.least
