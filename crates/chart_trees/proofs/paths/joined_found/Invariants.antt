use Rattle.std.proofs.Common.{◌≡◌, ◌++◌, take}
use Rattle.chart_trees.proofs.paths.joined_found.Given as goal

abbrev pub invariant-loop-pos : goal.invariant-loop-pos
invariant-loop-pos l = l.joined ≡ l.found ++ take l.pos-index l.more
