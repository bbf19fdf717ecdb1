-- What a piece says, as an axiom.
use Rattle.logic_terms.specs.Concept.{Everything, Atomic, Claim, SubClassOf, SubPropertyOf, ClassAssertion, PropertyAssertion, SameIndividual, DifferentIndividuals, TransitiveProperty}
use Rattle.absorb.specs.Pieces.{Piece, Equality, RoleInclusion, Assertion, Related, Difference, Transitivity, Unfolding, General}

-- the axiom that says the same
abbrev pub claim_in : Piece → Claim
claim_in (Equality one other) = SameIndividual one other
claim_in (RoleInclusion r s) = SubPropertyOf r s
claim_in (Assertion name c) = ClassAssertion c name
claim_in (Related r from to) = PropertyAssertion r from to
claim_in (Difference one other) = DifferentIndividuals one other
claim_in (Transitivity word) = TransitiveProperty word
claim_in (Unfolding word c) = SubClassOf (Atomic word) c
claim_in (General c) = SubClassOf Everything c
