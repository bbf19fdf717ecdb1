use Rattle.std.proofs.Common.{take, Contains}
use Rattle.absorb.proofs.hierarchy.is_within.Given as goal

abbrev pub invariant-loop-pair : goal.invariant-loop-pair
invariant-loop-pair l = ¬ Contains (take l.pair-index l.hierarchy) (l.below, l.above)
