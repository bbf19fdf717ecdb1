use Rattle.std.proofs.Common.{◌≡◌, take}
use Rattle.logic_terms.specs.Shown.{claims_of}
use Rattle.absorb.specs.Sorted.{sorted}
use Rattle.absorb.specs.Found.{found}
use Rattle.absorb.proofs.sorting.gather.Given as goal

abbrev pub invariant-loop-place : goal.invariant-loop-place
invariant-loop-place l = found l.pieces ≡ sorted (take l.place (claims_of l.axioms))
