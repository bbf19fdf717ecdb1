use Rattle.std.proofs.Common.{◌≡◌, ◌++◌, take}
use Rattle.derivation_trees.specs.Trees.{nodes_of}
use Rattle.chart_trees.specs.Order.{codes}
use Rattle.chart_trees.proofs.codes.+coding.Given as goal

abbrev pub invariant-push_codes-loop-place : goal.invariant-push_codes-loop-place
invariant-push_codes-loop-place l = l.code ≡ l.fn.code ++ codes (take l.place (nodes_of l.trees))
