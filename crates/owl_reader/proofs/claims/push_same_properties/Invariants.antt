use Rattle.std.proofs.Common.{◌≡◌, ◌++◌, drop}
use Rattle.logic_terms.specs.Shown.{claims_of}
use Rattle.logic_terms.specs.Concept.{SubPropertyOf}
use Rattle.owl_reader.specs.Claims.{closing}
use Rattle.owl_reader.proofs.claims.push_same_properties.Given as goal

abbrev pub invariant-loop-role : goal.invariant-loop-role
invariant-loop-role l =
    claims_of l.axioms ++ closing SubPropertyOf l.first l.last (drop l.role-index l.rest)
    ≡ claims_of l.fn.axioms ++ closing SubPropertyOf l.first l.first l.rest
