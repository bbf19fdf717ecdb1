use Rattle.std.proofs.Common.{◌≡◌, take}
use Rattle.derivation_trees.proofs.menus.Menu.copy.Given as goal

abbrev pub invariant-loop-place : goal.invariant-loop-place
invariant-loop-place l = l.copied ≡ take l.place l.self
