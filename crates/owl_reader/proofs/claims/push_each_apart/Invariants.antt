use Rattle.std.proofs.Common.{◌≡◌, ◌++◌, map, drop}
use Rattle.logic_terms.specs.Shown.{concept_of, claims_of}
use Rattle.owl_reader.specs.Claims.{apart}
use Rattle.owl_reader.proofs.claims.push_each_apart.Given as goal

abbrev pub invariant-loop-other : goal.invariant-loop-other
invariant-loop-other l =
    claims_of l.axioms ++ map (apart (concept_of l.class)) (map concept_of (drop l.other-index l.others))
    ≡ claims_of l.fn.axioms ++ map (apart (concept_of l.class)) (map concept_of l.others)
