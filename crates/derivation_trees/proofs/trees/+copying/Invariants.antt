use Rattle.std.proofs.Common.{◌≡◌, take}
use Rattle.derivation_trees.specs.Trees.{nodes_of}
use Rattle.derivation_trees.proofs.trees.+copying.Given as goal

abbrev pub invariant-Trees::copy-loop-place : goal.invariant-Trees::copy-loop-place
invariant-Trees::copy-loop-place l = nodes_of l.copied ≡ take l.place (nodes_of l.self)
