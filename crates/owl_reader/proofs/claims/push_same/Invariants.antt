use Rattle.std.proofs.Common.{◌≡◌, ◌++◌, ◌∷◌, drop}
use Rattle.logic_terms.specs.Shown.{claims_of}
use Rattle.logic_terms.specs.Concept.{SameIndividual}
use Rattle.owl_reader.specs.Claims.{each_next}
use Rattle.owl_reader.proofs.claims.push_same.Given as goal

-- what is left, with the last name before it, decides
abbrev pub invariant-loop-name : goal.invariant-loop-name
invariant-loop-name l =
    claims_of l.axioms ++ each_next SameIndividual (l.last ∷ drop l.name-index l.rest)
    ≡ claims_of l.fn.axioms ++ each_next SameIndividual l.names
