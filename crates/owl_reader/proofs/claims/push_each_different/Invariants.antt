use Rattle.std.proofs.Common.{◌≡◌, ◌++◌, map, drop}
use Rattle.logic_terms.specs.Shown.{claims_of}
use Rattle.logic_terms.specs.Concept.{DifferentIndividuals}
use Rattle.owl_reader.proofs.claims.push_each_different.Given as goal

abbrev pub invariant-loop-other : goal.invariant-loop-other
invariant-loop-other l =
    claims_of l.axioms ++ map (DifferentIndividuals l.name) (drop l.other-index l.others)
    ≡ claims_of l.fn.axioms ++ map (DifferentIndividuals l.name) l.others
