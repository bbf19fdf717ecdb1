use Rattle.std.proofs.Common.{◌≡◌, take}
use Rattle.derivation_trees.specs.Skeletons.{skeleton_at, IsLeastSkeleton}
use Rattle.derivation_trees.proofs.skeletons.copy_words.Given as goal

abbrev pub invariant-loop-word : goal.invariant-loop-word
invariant-loop-word l = l.copied ≡ take l.word-index l.words
