use Rattle.std.proofs.Common.{◌≡◌, take}
use Rattle.derivation_trees.specs.Instances.{tests_under}
use Rattle.derivation_trees.proofs.instances.tests_under.Given as goal

abbrev pub invariant-loop-pattern : goal.invariant-loop-pattern
invariant-loop-pattern l =
    l.tests ≡ tests_under l.values (take l.pattern-index l.patterns)
