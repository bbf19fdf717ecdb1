use Rattle.std.proofs.Common.{◌≡◌, ◌++◌, map, drop}
use Rattle.logic_terms.specs.Shown.{concept_of, claims_of}
use Rattle.owl_reader.specs.Claims.{apart, pairs}
use Rattle.owl_reader.proofs.claims.push_disjoint.Given as goal

abbrev pub invariant-loop-place : goal.invariant-loop-place
invariant-loop-place l =
    claims_of l.axioms ++ pairs apart (map concept_of (drop l.place l.classes)) ≡ claims_of l.fn.axioms ++ pairs apart (map concept_of l.classes)
