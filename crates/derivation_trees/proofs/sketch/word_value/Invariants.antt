use Rattle.std.proofs.Common.{◌≡◌, drop}
use Rattle.derivation_trees.specs.Skeletons.{word_among}
use Rattle.derivation_trees.proofs.sketch.word_value.Given as goal

abbrev pub invariant-loop-feature : goal.invariant-loop-feature
invariant-loop-feature l = word_among (drop l.feature-index l.vals) ≡ word_among l.vals
