use Rattle.std.proofs.Common.{◌≡◌, map, take}
use Rattle.lexicon.specs.Readings.{readings_of}
use Rattle.derivation_trees.proofs.check.readings_of.Given as goal

abbrev pub invariant-loop-token : goal.invariant-loop-token
invariant-loop-token l = l.readings.items ≡ map (readings_of l.lexicon.live) (take l.token-index l.tokens)
