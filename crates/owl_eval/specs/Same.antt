-- Which axioms are written alike.
use Rattle.std.specs.Prelude.{◌&&◌, Bool, false}
use Rattle.logic_terms.specs.Concept.{Claim, SubClassOf, SubPropertyOf, ClassAssertion, PropertyAssertion, NegativePropertyAssertion, SameIndividual, DifferentIndividuals, TransitiveProperty}
use Rattle.logic_terms.specs.Interpretation.{is_word}
use Rattle.logic_terms.specs.Same.{same_role, same_concept}

-- whether two axioms are one, part by part
abbrev pub same_claim : Claim → Claim → Bool
same_claim (SubClassOf c d) (SubClassOf e f) = same_concept c e && same_concept d f
same_claim (SubPropertyOf r s) (SubPropertyOf t u) = same_role r t && same_role s u
same_claim (ClassAssertion c a) (ClassAssertion d b) = same_concept c d && is_word a b
same_claim (PropertyAssertion r a b) (PropertyAssertion s c d) = same_role r s && (is_word a c && is_word b d)
same_claim (NegativePropertyAssertion r a b) (NegativePropertyAssertion s c d) = same_role r s && (is_word a c && is_word b d)
same_claim (SameIndividual a b) (SameIndividual c d) = is_word a c && is_word b d
same_claim (DifferentIndividuals a b) (DifferentIndividuals c d) = is_word a c && is_word b d
same_claim (TransitiveProperty v) (TransitiveProperty w) = is_word v w
same_claim _ _ = false
