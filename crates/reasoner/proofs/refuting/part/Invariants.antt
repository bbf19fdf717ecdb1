use Rattle.std.proofs.Common.{IsTrue}
use Rattle.logic_terms.specs.Shown.{claims_of}
use Rattle.absorb.specs.Mentioned.{are_over}
use Rattle.reasoner.proofs.refuting.part.Given as goal

-- the chosen axioms are over the names
abbrev pub invariant-loop-place : goal.invariant-loop-place
invariant-loop-place l = IsTrue (are_over l.stated.names.now (claims_of l.chosen))
