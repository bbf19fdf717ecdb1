use Rattle.std.proofs.Common.{◌≡◌, ◌++◌, take, drop}
use Rattle.derivation_trees.specs.Putting.{put}
use Rattle.derivation_trees.proofs.features.place_for.Given as goal

abbrev pub invariant-loop-place : goal.invariant-loop-place
invariant-loop-place l =
    take l.place l.numbers ++ put l.number (drop l.place l.numbers) ≡ put l.number l.numbers
