use Rattle.std.proofs.Common.{◌≡◌, ◌++◌, map, drop}
use Rattle.logic_terms.specs.Shown.{concept_of, claims_of}
use Rattle.owl_reader.specs.Claims.{below, closing}
use Rattle.owl_reader.proofs.claims.push_equivalent.Given as goal

abbrev pub invariant-loop-class : goal.invariant-loop-class
invariant-loop-class l =
    claims_of l.axioms ++ closing below (concept_of l.first) (concept_of l.last) (map concept_of (drop l.class-index l.rest))
    ≡ claims_of l.fn.axioms ++ closing below (concept_of l.first) (concept_of l.first) (map concept_of l.rest)
