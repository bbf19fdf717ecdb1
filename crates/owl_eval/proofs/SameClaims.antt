-- Axioms that the test calls the same are equal.
use Rattle.std.proofs.Common.{◌≡◌, ◌&&◌, true, ap, ◌∙◌}
use Rattle.std.proofs.lemmas.Bool.{and_parts}
use Rattle.wiki_base.specs.declared.numbers.WordId.{WordId}
use Rattle.logic_terms.specs.Concept.{Claim, SubClassOf, SubPropertyOf, ClassAssertion, PropertyAssertion, NegativePropertyAssertion, SameIndividual, DifferentIndividuals, TransitiveProperty}
use Rattle.logic_terms.specs.Interpretation.{is_word}
use Rattle.logic_terms.specs.Same.{same_role, same_concept}
use Rattle.logic_terms.proofs.SameLemmas.{word_equal, role_equal, same_concept-equal}
use Rattle.owl_eval.specs.Same.{same_claim}

two_equal : (f : WordId → WordId → Claim) (a b c d : WordId) → (is_word a c && is_word b d) ≡ true → f a b ≡ f c d
two_equal f a b c d h =
    let p = and_parts (is_word a c) (is_word b d) h in
    ap (λ x. f x b) (word_equal a c p.0) ∙ ap (f c) (word_equal b d p.1)

pub same_claim-equal : (one other : Claim) → same_claim one other ≡ true → one ≡ other
same_claim-equal (SubClassOf c d) (SubClassOf e f) h =
    let p = and_parts (same_concept c e) (same_concept d f) h in
    ap (λ x. SubClassOf x d) (same_concept-equal c e p.0) ∙ ap (SubClassOf e) (same_concept-equal d f p.1)
same_claim-equal (SubPropertyOf r s) (SubPropertyOf t u) h =
    let p = and_parts (same_role r t) (same_role s u) h in
    ap (λ x. SubPropertyOf x s) (role_equal r t p.0) ∙ ap (SubPropertyOf t) (role_equal s u p.1)
same_claim-equal (ClassAssertion c a) (ClassAssertion d b) h =
    let p = and_parts (same_concept c d) (is_word a b) h in
    ap (λ x. ClassAssertion x a) (same_concept-equal c d p.0) ∙ ap (ClassAssertion d) (word_equal a b p.1)
same_claim-equal (PropertyAssertion r a b) (PropertyAssertion s c d) h =
    let p = and_parts (same_role r s) (is_word a c && is_word b d) h in
    ap (λ x. PropertyAssertion x a b) (role_equal r s p.0) ∙ two_equal (PropertyAssertion s) a b c d p.1
same_claim-equal (NegativePropertyAssertion r a b) (NegativePropertyAssertion s c d) h =
    let p = and_parts (same_role r s) (is_word a c && is_word b d) h in
    ap (λ x. NegativePropertyAssertion x a b) (role_equal r s p.0) ∙ two_equal (NegativePropertyAssertion s) a b c d p.1
same_claim-equal (SameIndividual a b) (SameIndividual c d) h = two_equal SameIndividual a b c d h
same_claim-equal (DifferentIndividuals a b) (DifferentIndividuals c d) h = two_equal DifferentIndividuals a b c d h
same_claim-equal (TransitiveProperty v) (TransitiveProperty w) h = ap TransitiveProperty (word_equal v w h)
same_claim-equal _ _ h = cc
