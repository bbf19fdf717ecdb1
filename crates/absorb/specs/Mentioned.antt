-- The names in classes and axioms.
use Rattle.std.specs.Prelude.{Bool, List, [], ◌∷◌, ◌++◌}
use Rattle.std.specs.List.{list_any, list_all, flat_map}
use Rattle.wiki_base.specs.declared.numbers.WordId.{WordId}
use Rattle.logic_terms.specs.Interpretation.{is_word}
use Rattle.logic_terms.specs.Concept.{Concept, Concepts, Everything, Atomic, ComplementOf, IntersectionOf, UnionOf, SomeValuesFrom, AllValuesFrom, HasValue, no_concept, also_concept, Claim, SubClassOf, SubPropertyOf, ClassAssertion, PropertyAssertion, NegativePropertyAssertion, SameIndividual, DifferentIndividuals, TransitiveProperty}

-- the names in a class, and in the members of one
abbrev mutual
  pub names_in : Concept → List WordId
  names_in Everything = []
  names_in (Atomic word) = []
  names_in (ComplementOf c) = names_in c
  names_in (IntersectionOf cs) = names_in_each cs
  names_in (UnionOf cs) = names_in_each cs
  names_in (SomeValuesFrom role c) = names_in c
  names_in (AllValuesFrom role c) = names_in c
  names_in (HasValue role name) = name ∷ []

  pub names_in_each : Concepts → List WordId
  names_in_each no_concept = []
  names_in_each (also_concept c cs) = names_in c ++ names_in_each cs

-- the names in an axiom
abbrev pub names_in_claim : Claim → List WordId
names_in_claim (SubClassOf c d) = names_in c ++ names_in d
names_in_claim (SubPropertyOf r s) = []
names_in_claim (ClassAssertion c name) = name ∷ names_in c
names_in_claim (PropertyAssertion r from to) = from ∷ to ∷ []
names_in_claim (NegativePropertyAssertion r from to) = from ∷ to ∷ []
names_in_claim (SameIndividual one other) = one ∷ other ∷ []
names_in_claim (DifferentIndividuals one other) = one ∷ other ∷ []
names_in_claim (TransitiveProperty word) = []

-- whether a name is one of these
abbrev pub is_among : List WordId → WordId → Bool
is_among names name = list_any (is_word name) names

-- whether each name in the axioms is one of these
abbrev pub are_over : List WordId → List Claim → Bool
are_over names claims = list_all (λ claim. list_all (is_among names) (names_in_claim claim)) claims
