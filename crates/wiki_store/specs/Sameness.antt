-- Which meanings are one. Only private calls speak of it.
use Rattle.std.specs.Prelude.{◌&&◌, Bool, true, false, List, [], ◌∷◌}
use Rattle.logic_terms.specs.declared.cause.Cause.{Cause}
use Rattle.logic_terms.specs.declared.cause.Cause.TheVariants.{Shared, Cycle, NoRoot, Equality, Free}
use Rattle.logic_terms.specs.Concept.{Claim, SubClassOf, SubPropertyOf, ClassAssertion, PropertyAssertion, NegativePropertyAssertion, SameIndividual, DifferentIndividuals, TransitiveProperty}
use Rattle.logic_terms.specs.Interpretation.{is_word}
use Rattle.logic_terms.specs.Same.{same_role, same_concept}
use Rattle.plain_wiki.specs.Meanings.{Meaning, stating, outside, asking, asking_outside}

abbrev pub same_cause : Cause → Cause → Bool
same_cause Shared Shared = true
same_cause Cycle Cycle = true
same_cause NoRoot NoRoot = true
same_cause Equality Equality = true
same_cause Free Free = true
same_cause _ _ = false

-- whether two axioms are one, part by part
abbrev pub same_claim : Claim → Claim → Bool
same_claim (SubClassOf c d) (SubClassOf e f) = same_concept c e && same_concept d f
same_claim (SubPropertyOf r s) (SubPropertyOf t u) = same_role r t && same_role s u
same_claim (ClassAssertion c a) (ClassAssertion d b) = same_concept c d && is_word a b
same_claim (PropertyAssertion r a b) (PropertyAssertion s c d) = same_role r s && is_word a c && is_word b d
same_claim (NegativePropertyAssertion r a b) (NegativePropertyAssertion s c d) = same_role r s && is_word a c && is_word b d
same_claim (SameIndividual a b) (SameIndividual c d) = is_word a c && is_word b d
same_claim (DifferentIndividuals a b) (DifferentIndividuals c d) = is_word a c && is_word b d
same_claim (TransitiveProperty v) (TransitiveProperty w) = is_word v w
same_claim _ _ = false

abbrev pub same_claims : List Claim → List Claim → Bool
same_claims [] [] = true
same_claims [] (d ∷ ds) = false
same_claims (c ∷ cs) [] = false
same_claims (c ∷ cs) (d ∷ ds) = same_claim c d && same_claims cs ds

abbrev pub same_meaning : Meaning → Meaning → Bool
same_meaning (stating cs) (stating ds) = same_claims cs ds
same_meaning (outside c) (outside d) = same_cause c d
same_meaning (asking c) (asking d) = same_concept c d
same_meaning (asking_outside c) (asking_outside d) = same_cause c d
same_meaning _ _ = false
