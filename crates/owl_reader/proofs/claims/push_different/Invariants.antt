use Rattle.std.proofs.Common.{◌≡◌, ◌++◌, drop}
use Rattle.logic_terms.specs.Shown.{claims_of}
use Rattle.logic_terms.specs.Concept.{DifferentIndividuals}
use Rattle.owl_reader.specs.Claims.{pairs}
use Rattle.owl_reader.proofs.claims.push_different.Given as goal

abbrev pub invariant-loop-place : goal.invariant-loop-place
invariant-loop-place l =
    claims_of l.axioms ++ pairs DifferentIndividuals (drop l.place l.names) ≡ claims_of l.fn.axioms ++ pairs DifferentIndividuals l.names
