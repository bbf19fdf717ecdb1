-- Meanings that the test calls the same are one, and each is the same as itself.
use Rattle.std.proofs.Common.{◌≡◌, ◌≢◌, ℕ, suc, ◌+◌, ◌≤◌, ◌&&◌, Bool, true, false, List, [], ◌∷◌, length, drop, Some, refl, ap, ◌∙◌}
use Rattle.std.specs.List.{slice_get}
use Rattle.std.proofs.lemmas.Bool.{false≢true, and_parts, and_from}
use Rattle.std.proofs.Math.Bool.{and-false}
use Rattle.wiki_base.proofs.ListLaws.{drop_slice_get}
use Rattle.logic_terms.specs.declared.cause.Cause.{Cause}
use Rattle.logic_terms.specs.declared.cause.Cause.TheVariants.{Shared, Cycle, NoRoot, Equality, Free}
use Rattle.logic_terms.specs.Concept.{Claim, SubClassOf, SubPropertyOf, ClassAssertion, PropertyAssertion, NegativePropertyAssertion, SameIndividual, DifferentIndividuals, TransitiveProperty}
use Rattle.logic_terms.specs.Interpretation.{is_word}
use Rattle.logic_terms.specs.Same.{same_role, same_concept}
use Rattle.logic_terms.proofs.SameLemmas.{word_equal, role_equal, same_concept-equal, same_word, same_role-self, same_concept-self}
use Rattle.logic_terms.proofs.Walks.{left_none}
use Rattle.plain_wiki.specs.Meanings.{Meaning, stating, outside, asking, asking_outside}
use Rattle.wiki_store.specs.Sameness.{same_cause, same_claim, same_claims, same_meaning}

cause_equal : (c d : Cause) → same_cause c d ≡ true → c ≡ d
cause_equal Shared Shared h = refl
cause_equal Cycle Cycle h = refl
cause_equal NoRoot NoRoot h = refl
cause_equal Equality Equality h = refl
cause_equal Free Free h = refl
cause_equal _ _ h = absurd (false≢true h)

cause_self : (c : Cause) → same_cause c c ≡ true
cause_self Shared = refl
cause_self Cycle = refl
cause_self NoRoot = refl
cause_self Equality = refl
cause_self Free = refl

claim_equal : (c d : Claim) → same_claim c d ≡ true → c ≡ d
claim_equal (SubClassOf c d) (SubClassOf e f) h =
    let p = and_parts (same_concept c e) (same_concept d f) h in
    ap (λ x. SubClassOf x d) (same_concept-equal c e p.0) ∙ ap (λ x. SubClassOf e x) (same_concept-equal d f p.1)
claim_equal (SubPropertyOf r s) (SubPropertyOf t u) h =
    let p = and_parts (same_role r t) (same_role s u) h in
    ap (λ x. SubPropertyOf x s) (role_equal r t p.0) ∙ ap (λ x. SubPropertyOf t x) (role_equal s u p.1)
claim_equal (ClassAssertion c a) (ClassAssertion d b) h =
    let p = and_parts (same_concept c d) (is_word a b) h in
    ap (λ x. ClassAssertion x a) (same_concept-equal c d p.0) ∙ ap (λ x. ClassAssertion d x) (word_equal a b p.1)
claim_equal (PropertyAssertion r a b) (PropertyAssertion s c d) h =
    let p = and_parts (same_role r s && is_word a c) (is_word b d) h in
    let q = and_parts (same_role r s) (is_word a c) p.0 in
    ap (λ x. PropertyAssertion x a b) (role_equal r s q.0) ∙ ap (λ x. PropertyAssertion s x b) (word_equal a c q.1)
    ∙ ap (λ x. PropertyAssertion s c x) (word_equal b d p.1)
claim_equal (NegativePropertyAssertion r a b) (NegativePropertyAssertion s c d) h =
    let p = and_parts (same_role r s && is_word a c) (is_word b d) h in
    let q = and_parts (same_role r s) (is_word a c) p.0 in
    ap (λ x. NegativePropertyAssertion x a b) (role_equal r s q.0) ∙ ap (λ x. NegativePropertyAssertion s x b) (word_equal a c q.1)
    ∙ ap (λ x. NegativePropertyAssertion s c x) (word_equal b d p.1)
claim_equal (SameIndividual a b) (SameIndividual c d) h =
    let p = and_parts (is_word a c) (is_word b d) h in
    ap (λ x. SameIndividual x b) (word_equal a c p.0) ∙ ap (λ x. SameIndividual c x) (word_equal b d p.1)
claim_equal (DifferentIndividuals a b) (DifferentIndividuals c d) h =
    let p = and_parts (is_word a c) (is_word b d) h in
    ap (λ x. DifferentIndividuals x b) (word_equal a c p.0) ∙ ap (λ x. DifferentIndividuals c x) (word_equal b d p.1)
claim_equal (TransitiveProperty v) (TransitiveProperty w) h = ap TransitiveProperty (word_equal v w h)
claim_equal _ _ h = absurd (false≢true h)

claim_self : (c : Claim) → same_claim c c ≡ true
claim_self (SubClassOf c d) = and_from _ _ (same_concept-self c) (same_concept-self d)
claim_self (SubPropertyOf r s) = and_from _ _ (same_role-self r) (same_role-self s)
claim_self (ClassAssertion c a) = and_from _ _ (same_concept-self c) (same_word a)
claim_self (PropertyAssertion r a b) = and_from _ _ (and_from _ _ (same_role-self r) (same_word a)) (same_word b)
claim_self (NegativePropertyAssertion r a b) = and_from _ _ (and_from _ _ (same_role-self r) (same_word a)) (same_word b)
claim_self (SameIndividual a b) = and_from _ _ (same_word a) (same_word b)
claim_self (DifferentIndividuals a b) = and_from _ _ (same_word a) (same_word b)
claim_self (TransitiveProperty w) = same_word w

claims_equal : (cs ds : List Claim) → same_claims cs ds ≡ true → cs ≡ ds
claims_equal [] [] h = refl
claims_equal [] (d ∷ ds) h = absurd (false≢true h)
claims_equal (c ∷ cs) [] h = absurd (false≢true h)
claims_equal (c ∷ cs) (d ∷ ds) h =
    let p = and_parts (same_claim c d) (same_claims cs ds) h in
    ap (λ x. x ∷ cs) (claim_equal c d p.0) ∙ ap (λ xs. d ∷ xs) (claims_equal cs ds p.1)

claims_self : (cs : List Claim) → same_claims cs cs ≡ true
claims_self [] = refl
claims_self (c ∷ cs) = and_from _ _ (claim_self c) (claims_self cs)

pub meaning_equal : (m n : Meaning) → same_meaning m n ≡ true → m ≡ n
meaning_equal (stating cs) (stating ds) h = ap stating (claims_equal cs ds h)
meaning_equal (outside c) (outside d) h = ap outside (cause_equal c d h)
meaning_equal (asking c) (asking d) h = ap asking (same_concept-equal c d h)
meaning_equal (asking_outside c) (asking_outside d) h = ap asking_outside (cause_equal c d h)
meaning_equal _ _ h = absurd (false≢true h)

pub meaning_self : (m : Meaning) → same_meaning m m ≡ true
meaning_self (stating cs) = claims_self cs
meaning_self (outside c) = cause_self c
meaning_self (asking c) = same_concept-self c
meaning_self (asking_outside c) = cause_self c

-- ---- lists of axioms, from a place on

pub same_claims-length : (cs ds : List Claim) → length cs ≢ length ds → same_claims cs ds ≡ false
same_claims-length [] [] ne = absurd (ne refl)
same_claims-length [] (d ∷ ds) ne = refl
same_claims-length (c ∷ cs) [] ne = refl
same_claims-length (c ∷ cs) (d ∷ ds) ne = ap (λ b. same_claim c d && b) (same_claims-length cs ds (λ e. ne (ap suc e))) ∙ and-false (same_claim c d)

abbrev pub rest_same : List Claim → List Claim → ℕ → Bool
rest_same cs ds k = same_claims (drop k cs) (drop k ds)

rest_same-more : (cs ds : List Claim) (k : ℕ) (c d : Claim) → slice_get cs k ≡ Some c → slice_get ds k ≡ Some d
    → rest_same cs ds k ≡ (same_claim c d && rest_same cs ds (k + 1))
rest_same-more cs ds k c d at other = ap (λ xs. same_claims xs (drop k ds)) (drop_slice_get cs k c at)
    ∙ ap (λ xs. same_claims (c ∷ drop (k + 1) cs) xs) (drop_slice_get ds k d other)

pub rest_same-none : (cs ds : List Claim) (k : ℕ) → length cs ≤ k → length ds ≤ k → rest_same cs ds k ≡ true
rest_same-none cs ds k past other = left_none (λ xs. same_claims xs (drop k ds)) cs k past ∙ left_none (λ xs. same_claims [] xs) ds k other

pub rest_same-step : (cs ds : List Claim) (k : ℕ) (c d : Claim) (r : Bool) → slice_get cs k ≡ Some c → slice_get ds k ≡ Some d → r ≡ rest_same cs ds k
    → same_claim c d ≡ true → r ≡ rest_same cs ds (k + 1)
rest_same-step cs ds k c d r at other now same = now ∙ (rest_same-more cs ds k c d at other ∙ ap (λ b. b && rest_same cs ds (k + 1)) same)

pub rest_same-differ : (cs ds : List Claim) (k : ℕ) (c d : Claim) (r : Bool) → slice_get cs k ≡ Some c → slice_get ds k ≡ Some d → r ≡ rest_same cs ds k
    → same_claim c d ≡ false → r ≡ false
rest_same-differ cs ds k c d r at other now same = now ∙ (rest_same-more cs ds k c d at other ∙ ap (λ b. b && rest_same cs ds (k + 1)) same)
