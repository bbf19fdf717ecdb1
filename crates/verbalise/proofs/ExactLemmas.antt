-- When axioms are exactly one.
use Rattle.std.proofs.Common.{◌≡◌, ◌&&◌, Bool, true, false, List, [], ◌∷◌, IsTrue, ◌↔◌, refl, sym, ap, ◌∙◌}
use Rattle.std.proofs.lemmas.Bool.{and_parts, and_from}
use Rattle.wiki_base.specs.declared.numbers.WordId.{WordId}
use Rattle.logic_terms.specs.Concept.{Claim, SubClassOf, SubPropertyOf, ClassAssertion, PropertyAssertion, NegativePropertyAssertion, SameIndividual, DifferentIndividuals, TransitiveProperty}
use Rattle.logic_terms.specs.Interpretation.{is_word}
use Rattle.logic_terms.specs.Same.{same_role, same_concept}
use Rattle.logic_terms.proofs.SameLemmas.{word_equal, role_equal, same_concept-equal, same_word, same_role-self, same_concept-self}
use Rattle.verbalise.specs.Readings.{Understood, stating}
use Rattle.verbalise.specs.Same.{same_claim, are_just}

-- two words that are the same in both places
words_equal : (f : WordId → WordId → Claim) (a b c d : WordId) → (is_word a c && is_word b d) ≡ true → f a b ≡ f c d
words_equal f a b c d h =
    let p : (is_word a c ≡ true) × (is_word b d ≡ true) = and_parts (is_word a c) (is_word b d) h in
    ap (λ x. f x b) (word_equal a c p.0) ∙ ap (f c) (word_equal b d p.1)

-- axioms that the test calls the same are equal
pub same_claim-equal : (x y : Claim) → same_claim x y ≡ true → x ≡ y
same_claim-equal (SubClassOf c d) (SubClassOf e f) h =
    let p : (same_concept c e ≡ true) × (same_concept d f ≡ true) = and_parts (same_concept c e) (same_concept d f) h in
    ap (λ k. SubClassOf k d) (same_concept-equal c e p.0) ∙ ap (SubClassOf e) (same_concept-equal d f p.1)
same_claim-equal (SubPropertyOf r s) (SubPropertyOf t u) h =
    let p : (same_role r t ≡ true) × (same_role s u ≡ true) = and_parts (same_role r t) (same_role s u) h in
    ap (λ k. SubPropertyOf k s) (role_equal r t p.0) ∙ ap (SubPropertyOf t) (role_equal s u p.1)
same_claim-equal (ClassAssertion c a) (ClassAssertion d b) h =
    let p : (same_concept c d ≡ true) × (is_word a b ≡ true) = and_parts (same_concept c d) (is_word a b) h in
    ap (λ k. ClassAssertion k a) (same_concept-equal c d p.0) ∙ ap (ClassAssertion d) (word_equal a b p.1)
same_claim-equal (PropertyAssertion r a b) (PropertyAssertion s c d) h =
    let p : (same_role r s ≡ true) × ((is_word a c && is_word b d) ≡ true) = and_parts (same_role r s) (is_word a c && is_word b d) h in
    ap (λ k. PropertyAssertion k a b) (role_equal r s p.0) ∙ words_equal (PropertyAssertion s) a b c d p.1
same_claim-equal (NegativePropertyAssertion r a b) (NegativePropertyAssertion s c d) h =
    let p : (same_role r s ≡ true) × ((is_word a c && is_word b d) ≡ true) = and_parts (same_role r s) (is_word a c && is_word b d) h in
    ap (λ k. NegativePropertyAssertion k a b) (role_equal r s p.0) ∙ words_equal (NegativePropertyAssertion s) a b c d p.1
same_claim-equal (SameIndividual a b) (SameIndividual c d) h = words_equal SameIndividual a b c d h
same_claim-equal (DifferentIndividuals a b) (DifferentIndividuals c d) h = words_equal DifferentIndividuals a b c d h
same_claim-equal (TransitiveProperty v) (TransitiveProperty w) h = ap TransitiveProperty (word_equal v w h)
same_claim-equal _ _ h = cc

-- each axiom is the same as itself
words_self : (a b : WordId) → (is_word a a && is_word b b) ≡ true
words_self a b = ap (λ x. x && is_word b b) (same_word a) ∙ same_word b

pub same_claim-self : (x : Claim) → same_claim x x ≡ true
same_claim-self (SubClassOf c d) = ap (λ x. x && same_concept d d) (same_concept-self c) ∙ same_concept-self d
same_claim-self (SubPropertyOf r s) = ap (λ x. x && same_role s s) (same_role-self r) ∙ same_role-self s
same_claim-self (ClassAssertion c a) = ap (λ x. x && is_word a a) (same_concept-self c) ∙ same_word a
same_claim-self (PropertyAssertion r a b) = ap (λ x. x && (is_word a a && is_word b b)) (same_role-self r) ∙ words_self a b
same_claim-self (NegativePropertyAssertion r a b) = ap (λ x. x && (is_word a a && is_word b b)) (same_role-self r) ∙ words_self a b
same_claim-self (SameIndividual a b) = words_self a b
same_claim-self (DifferentIndividuals a b) = words_self a b
same_claim-self (TransitiveProperty w) = same_word w

-- axioms are just this one exactly where the test says so
pub just-is : (claims : List Claim) (claim : Claim) → are_just claims claim ≡ true → claims ≡ claim ∷ []
just-is [] claim h = cc
just-is (c ∷ []) claim h = ap (λ x. x ∷ []) (same_claim-equal c claim h)
just-is (c ∷ d ∷ cs) claim h = cc

pub just-self : (claims : List Claim) (claim : Claim) → claims ≡ claim ∷ [] → are_just claims claim ≡ true
just-self claims claim e = ap (λ cs. are_just cs claim) e ∙ same_claim-self claim

-- statements that are understood alike state the same axioms
pub stating-same : (cs ds : List Claim) → stating cs ≡ stating ds → cs ≡ ds
stating-same cs ds h = cc
