-- What a class means, as a test on elements, and an axiom, as a test on interpretations.
-- After OWL 2, Direct Semantics, sections 2.2 and 2.3.
use Rattle.std.specs.Prelude.{ℕ, zero, suc, ◌==◌, ◌&&◌, ◌||◌, Bool, true, false, not, List}
use Rattle.std.specs.List.{list_all}
use Rattle.logic_terms.specs.Concept.{Concept, Concepts, Everything, Atomic, ComplementOf, IntersectionOf, UnionOf, SomeValuesFrom, AllValuesFrom, HasValue, no_concept, also_concept, Claim, SubClassOf, SubPropertyOf, ClassAssertion, PropertyAssertion, NegativePropertyAssertion, SameIndividual, DifferentIndividuals, TransitiveProperty}
use Rattle.logic_terms.specs.Interpretation.{Interpretation, element_of, pairs_of, has_element, has_pair, relates}

-- whether some number below a bound passes a test, and whether each does
abbrev pub some_below : ℕ → (ℕ → Bool) → Bool
some_below zero test = false
some_below (suc n) test = test n || some_below n test

abbrev pub each_below : ℕ → (ℕ → Bool) → Bool
each_below zero test = true
each_below (suc n) test = test n && each_below n test

abbrev pub implies : Bool → Bool → Bool
implies a b = not a || b

-- whether an element is in a class
abbrev mutual
  pub is_in : Interpretation → Concept → ℕ → Bool
  is_in i Everything x = true
  is_in i (Atomic word) x = has_element i word x
  is_in i (ComplementOf c) x = not (is_in i c x)
  is_in i (IntersectionOf cs) x = is_in_each i cs x
  is_in i (UnionOf cs) x = is_in_some i cs x
  is_in i (SomeValuesFrom role c) x = some_below i.size (λ y. relates i role x y && is_in i c y)
  is_in i (AllValuesFrom role c) x = each_below i.size (λ y. implies (relates i role x y) (is_in i c y))
  is_in i (HasValue role name) x = relates i role x (element_of i name)

  pub is_in_each : Interpretation → Concepts → ℕ → Bool
  is_in_each i no_concept x = true
  is_in_each i (also_concept c cs) x = is_in i c x && is_in_each i cs x

  pub is_in_some : Interpretation → Concepts → ℕ → Bool
  is_in_some i no_concept x = false
  is_in_some i (also_concept c cs) x = is_in i c x || is_in_some i cs x

-- whether an axiom is true
abbrev pub holds : Interpretation → Claim → Bool
holds i (SubClassOf c d) = each_below i.size (λ x. implies (is_in i c x) (is_in i d x))
holds i (SubPropertyOf r s) = each_below i.size (λ x. each_below i.size (λ y. implies (relates i r x y) (relates i s x y)))
holds i (ClassAssertion c name) = is_in i c (element_of i name)
holds i (PropertyAssertion r from to) = relates i r (element_of i from) (element_of i to)
holds i (NegativePropertyAssertion r from to) = not (relates i r (element_of i from) (element_of i to))
holds i (SameIndividual one other) = element_of i one == element_of i other
holds i (DifferentIndividuals one other) = not (element_of i one == element_of i other)
holds i (TransitiveProperty word) =
    list_all (λ p. list_all (λ q. implies (q.0 == p.1) (has_pair i word p.0 q.1)) (pairs_of i word)) (pairs_of i word)

-- whether every axiom is true
abbrev pub all_hold : Interpretation → List Claim → Bool
all_hold i claims = list_all (holds i) claims
