use Rattle.std.proofs.Common.{◌≡◌, ◌++◌, take}
use Rattle.chart_trees.proofs.codes.push_found.Given as goal

abbrev pub invariant-loop-pos : goal.invariant-loop-pos
invariant-loop-pos l = l.code ≡ l.fn.code ++ take l.pos-index l.found
