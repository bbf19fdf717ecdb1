use Rattle.std.proofs.Common.{◌≡◌, ◌++◌, take}
use Rattle.ace_to_owl.proofs.terms.add_bound.Given as goal

abbrev pub invariant-loop-referent : goal.invariant-loop-referent
invariant-loop-referent l = l.bound ≡ l.initial.bound ++ take l.referent-index l.referents
