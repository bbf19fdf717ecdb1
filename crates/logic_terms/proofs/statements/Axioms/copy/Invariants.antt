use Rattle.std.proofs.Common.{◌≡◌, take, map}
use Rattle.logic_terms.specs.Shown.{claim_of, claims_of}
use Rattle.logic_terms.proofs.statements.Axioms.copy.Given as goal

abbrev pub invariant-loop-axiom : goal.invariant-loop-axiom
invariant-loop-axiom l = claims_of l.copied ≡ map claim_of (take l.axiom-index l.axiom-items)
