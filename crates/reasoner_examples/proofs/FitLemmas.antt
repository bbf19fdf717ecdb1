-- Fit classes and axioms are plain, and over the given names.
use Rattle.std.proofs.Common.{◌≡◌, ℕ, suc, ◌<◌, ◌≤◌, ◌&&◌, Bool, true, false, List, [], ◌∷◌, length, take, refl, sym, ap, ◌∙◌, arith}
use Rattle.std.specs.Prelude.{nat_lt, not}
use Rattle.std.specs.List.{list_all}
use Rattle.std.proofs.lemmas.List.{take_all}
use Rattle.std.proofs.lemmas.Bool.{and_from, and_parts, lt-ltb, le-ltb}
use Rattle.wiki_base.proofs.ListLaws.{all_append}
use Rattle.wiki_base.specs.declared.numbers.WordId.{WordId}
use Rattle.logic_terms.specs.declared.expressions.Class.{Class}
use Rattle.logic_terms.specs.declared.expressions.Classes.{Classes}
use Rattle.logic_terms.specs.declared.expressions.Class.TheVariants as class
use Rattle.logic_terms.specs.Complement.{is_simple, is_normal, is_wide, has_two, each_normal, each_wide}
use Rattle.logic_terms.specs.Concept.{Concept, Concepts, Everything, Atomic, ComplementOf, IntersectionOf, UnionOf, SomeValuesFrom, AllValuesFrom, HasValue, no_concept, also_concept, concepts_from, Claim, SubClassOf, SubPropertyOf, ClassAssertion, PropertyAssertion, NegativePropertyAssertion, SameIndividual, DifferentIndividuals, TransitiveProperty}
use Rattle.logic_terms.specs.Plain.{is_plain_claim, are_plain}
use Rattle.logic_terms.specs.Shown.{concept_of, concepts_of}
use Rattle.logic_terms.proofs.ShownLemmas.{concept_of-And, concept_of-Or}
use Rattle.absorb.specs.Mentioned.{is_among, names_in, names_in_each, names_in_claim, are_over}
use Rattle.reasoner_examples.specs.Fit.{is_fit, each_fit, members_fit, fits}

-- members in a list
each_in : (names : List WordId) (cs : List Concept) → list_all (is_fit names) cs ≡ each_fit names (concepts_from cs)
each_in names [] = refl
each_in names (c ∷ cs) = ap (λ b. is_fit names c && b) (each_in names cs)

two_in : (cs : List Concept) → not (nat_lt (length cs) 2) ≡ has_two (concepts_from cs)
two_in [] = refl
two_in (c ∷ []) = refl
two_in (c ∷ (d ∷ cs)) = ap not (le-ltb (suc (suc (length cs))) 2 (omega arith))

in_members : (names : List WordId) (cs : List Concept) → members_fit names cs ≡ (has_two (concepts_from cs) && each_fit names (concepts_from cs))
in_members names cs = ap (λ b. b && list_all (is_fit names) cs) (two_in cs) ∙ ap (λ b. has_two (concepts_from cs) && b) (each_in names cs)

module _ (names : List WordId) (whole : Class) (members : Classes) (r : Bool) (h : r ≡ members_fit names (concepts_of members)) where
  shown : (kind : Class) (c : Concept) → whole ≡ kind → concept_of kind ≡ c → is_fit names c ≡ is_fit names (concept_of whole)
  shown kind c is shows = sym (ap (λ w. is_fit names (concept_of w)) is ∙ ap (is_fit names) shows)

  pub in_and : whole ≡ class.And members → r ≡ is_fit names (concept_of whole)
  in_and is = h ∙ (in_members names (concepts_of members) ∙ shown _ _ is (concept_of-And members))

  pub in_or : whole ≡ class.Or members → r ≡ is_fit names (concept_of whole)
  in_or is = h ∙ (in_members names (concepts_of members) ∙ shown _ _ is (concept_of-Or members))

pub too_few : (names : List WordId) (cs : List Concept) → length cs < 2 → members_fit names cs ≡ false
too_few names cs few = ap (λ b. not b && list_all (is_fit names) cs) (lt-ltb (length cs) 2 few)

pub enough : (names : List WordId) (cs : List Concept) → 2 ≤ length cs → members_fit names cs ≡ list_all (is_fit names) cs
enough names cs many = ap (λ b. not b && list_all (is_fit names) cs) (le-ltb (length cs) 2 many)

module _ (names : List WordId) where
  mutual
    fit_normal : (c : Concept) → is_fit names c ≡ true → is_normal c ≡ true
    fit_normal Everything h = refl
    fit_normal (Atomic word) h = refl
    fit_normal (ComplementOf c) h = (and_parts (is_simple c) (is_fit names c) h).0
    fit_normal (IntersectionOf cs) h = fit_each_normal cs (and_parts (has_two cs) (each_fit names cs) h).1
    fit_normal (UnionOf cs) h = fit_each_normal cs (and_parts (has_two cs) (each_fit names cs) h).1
    fit_normal (SomeValuesFrom role c) h = fit_normal c h
    fit_normal (AllValuesFrom role c) h = fit_normal c h
    fit_normal (HasValue role name) h = refl

    fit_each_normal : (cs : Concepts) → each_fit names cs ≡ true → each_normal cs ≡ true
    fit_each_normal no_concept h = refl
    fit_each_normal (also_concept c cs) h =
        let parts = and_parts (is_fit names c) (each_fit names cs) h in
        and_from (is_normal c) (each_normal cs) (fit_normal c parts.0) (fit_each_normal cs parts.1)

  mutual
    fit_wide : (c : Concept) → is_fit names c ≡ true → is_wide c ≡ true
    fit_wide Everything h = refl
    fit_wide (Atomic word) h = refl
    fit_wide (ComplementOf c) h = fit_wide c (and_parts (is_simple c) (is_fit names c) h).1
    fit_wide (IntersectionOf cs) h =
        let parts = and_parts (has_two cs) (each_fit names cs) h in
        and_from (has_two cs) (each_wide cs) parts.0 (fit_each_wide cs parts.1)
    fit_wide (UnionOf cs) h =
        let parts = and_parts (has_two cs) (each_fit names cs) h in
        and_from (has_two cs) (each_wide cs) parts.0 (fit_each_wide cs parts.1)
    fit_wide (SomeValuesFrom role c) h = fit_wide c h
    fit_wide (AllValuesFrom role c) h = fit_wide c h
    fit_wide (HasValue role name) h = refl

    fit_each_wide : (cs : Concepts) → each_fit names cs ≡ true → each_wide cs ≡ true
    fit_each_wide no_concept h = refl
    fit_each_wide (also_concept c cs) h =
        let parts = and_parts (is_fit names c) (each_fit names cs) h in
        and_from (is_wide c) (each_wide cs) (fit_wide c parts.0) (fit_each_wide cs parts.1)

  mutual
    fit_over : (c : Concept) → is_fit names c ≡ true → list_all (is_among names) (names_in c) ≡ true
    fit_over Everything h = refl
    fit_over (Atomic word) h = refl
    fit_over (ComplementOf c) h = fit_over c (and_parts (is_simple c) (is_fit names c) h).1
    fit_over (IntersectionOf cs) h = fit_each_over cs (and_parts (has_two cs) (each_fit names cs) h).1
    fit_over (UnionOf cs) h = fit_each_over cs (and_parts (has_two cs) (each_fit names cs) h).1
    fit_over (SomeValuesFrom role c) h = fit_over c h
    fit_over (AllValuesFrom role c) h = fit_over c h
    fit_over (HasValue role name) h = and_from (is_among names name) true h refl

    fit_each_over : (cs : Concepts) → each_fit names cs ≡ true → list_all (is_among names) (names_in_each cs) ≡ true
    fit_each_over no_concept h = refl
    fit_each_over (also_concept c cs) h =
        let parts = and_parts (is_fit names c) (each_fit names cs) h in
        all_append (is_among names) (names_in c) (names_in_each cs) (fit_over c parts.0) (fit_each_over cs parts.1)

  two : (a b : WordId) → (is_among names a && is_among names b) ≡ true → list_all (is_among names) (a ∷ b ∷ []) ≡ true
  two a b h =
      let parts = and_parts (is_among names a) (is_among names b) h in
      and_from (is_among names a) (is_among names b && true) parts.0 (and_from (is_among names b) true parts.1 refl)

  plain : (c : Concept) → is_fit names c ≡ true → (is_normal c && is_wide c) ≡ true
  plain c h = and_from (is_normal c) (is_wide c) (fit_normal c h) (fit_wide c h)

  pub claim_plain : (claim : Claim) → fits names claim ≡ true → is_plain_claim claim ≡ true
  claim_plain (SubClassOf c d) h =
      let parts = and_parts (is_fit names c) (is_fit names d) h in
      and_from (is_normal c && is_wide c) (is_normal d && is_wide d) (plain c parts.0) (plain d parts.1)
  claim_plain (SubPropertyOf r s) h = refl
  claim_plain (ClassAssertion c name) h = plain c (and_parts (is_among names name) (is_fit names c) h).1
  claim_plain (PropertyAssertion r from to) h = refl
  claim_plain (NegativePropertyAssertion r from to) h = refl
  claim_plain (SameIndividual one other) h = refl
  claim_plain (DifferentIndividuals one other) h = refl
  claim_plain (TransitiveProperty word) h = refl

  pub claim_over : (claim : Claim) → fits names claim ≡ true → list_all (is_among names) (names_in_claim claim) ≡ true
  claim_over (SubClassOf c d) h =
      let parts = and_parts (is_fit names c) (is_fit names d) h in
      all_append (is_among names) (names_in c) (names_in d) (fit_over c parts.0) (fit_over d parts.1)
  claim_over (SubPropertyOf r s) h = refl
  claim_over (ClassAssertion c name) h =
      let parts = and_parts (is_among names name) (is_fit names c) h in
      and_from (is_among names name) (list_all (is_among names) (names_in c)) parts.0 (fit_over c parts.1)
  claim_over (PropertyAssertion r from to) h = two from to h
  claim_over (NegativePropertyAssertion r from to) h = two from to h
  claim_over (SameIndividual one other) h = two one other h
  claim_over (DifferentIndividuals one other) h = two one other h
  claim_over (TransitiveProperty word) h = refl

-- fit axioms, one by one
module _ (names : List WordId) where
  pub each_plain : (claims : List Claim) → list_all (fits names) claims ≡ true → list_all is_plain_claim claims ≡ true
  each_plain [] h = refl
  each_plain (claim ∷ claims) h =
      let parts = and_parts (fits names claim) (list_all (fits names) claims) h in
      and_from (is_plain_claim claim) (list_all is_plain_claim claims) (claim_plain names claim parts.0) (each_plain claims parts.1)

  pub each_over : (claims : List Claim) → list_all (fits names) claims ≡ true
      → list_all (λ claim. list_all (is_among names) (names_in_claim claim)) claims ≡ true
  each_over [] h = refl
  each_over (claim ∷ claims) h =
      let parts = and_parts (fits names claim) (list_all (fits names) claims) h in
      and_from (list_all (is_among names) (names_in_claim claim)) (list_all (λ c. list_all (is_among names) (names_in_claim c)) claims)
      (claim_over names claim parts.0) (each_over claims parts.1)

-- all members of a list were passed
pub all_members : (names : List WordId) (cs : List Concept) (n : ℕ) → length cs ≤ n → 2 ≤ length cs → list_all (is_fit names) (take n cs) ≡ true
    → members_fit names cs ≡ true
all_members names cs n past many h = enough names cs many ∙ (ap (list_all (is_fit names)) (sym (take_all n cs past)) ∙ h)

pub all_over : (names : List WordId) (claims : List Claim) (n : ℕ) → length claims ≤ n → list_all (fits names) (take n claims) ≡ true
    → are_over names claims ≡ true
all_over names claims n past h = each_over names claims (ap (list_all (fits names)) (sym (take_all n claims past)) ∙ h)

pub all_plain : (names : List WordId) (claims : List Claim) (n : ℕ) → length claims ≤ n → list_all (fits names) (take n claims) ≡ true → are_plain claims ≡ true
all_plain names claims n past h = each_plain names claims (ap (list_all (fits names)) (sym (take_all n claims past)) ∙ h)
