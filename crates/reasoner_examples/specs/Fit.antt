-- Which axioms a verdict may be asked on, over these names. Only private calls speak of it.
use Rattle.std.specs.Prelude.{◌&&◌, Bool, true, List, length, nat_lt, not}
use Rattle.std.specs.List.{list_all}
use Rattle.wiki_base.specs.declared.numbers.WordId.{WordId}
use Rattle.logic_terms.specs.Complement.{is_simple, has_two}
use Rattle.logic_terms.specs.Concept.{Concept, Concepts, Everything, Atomic, ComplementOf, IntersectionOf, UnionOf, SomeValuesFrom, AllValuesFrom, HasValue, no_concept, also_concept, Claim, SubClassOf, SubPropertyOf, ClassAssertion, PropertyAssertion, NegativePropertyAssertion, SameIndividual, DifferentIndividuals, TransitiveProperty}
use Rattle.absorb.specs.Mentioned.{is_among}

-- whether a class is in negation normal form, has two members in each intersection and union, and names given names alone
abbrev mutual
  pub is_fit : List WordId → Concept → Bool
  is_fit names Everything = true
  is_fit names (Atomic word) = true
  is_fit names (ComplementOf c) = is_simple c && is_fit names c
  is_fit names (IntersectionOf cs) = has_two cs && each_fit names cs
  is_fit names (UnionOf cs) = has_two cs && each_fit names cs
  is_fit names (SomeValuesFrom role c) = is_fit names c
  is_fit names (AllValuesFrom role c) = is_fit names c
  is_fit names (HasValue role name) = is_among names name

  pub each_fit : List WordId → Concepts → Bool
  each_fit names no_concept = true
  each_fit names (also_concept c cs) = is_fit names c && each_fit names cs

-- the same of members in a list
abbrev pub members_fit : List WordId → List Concept → Bool
members_fit names cs = not (nat_lt (length cs) 2) && list_all (is_fit names) cs

-- the same of an axiom
abbrev pub fits : List WordId → Claim → Bool
fits names (SubClassOf c d) = is_fit names c && is_fit names d
fits names (SubPropertyOf r s) = true
fits names (ClassAssertion c name) = is_among names name && is_fit names c
fits names (PropertyAssertion r from to) = is_among names from && is_among names to
fits names (NegativePropertyAssertion r from to) = is_among names from && is_among names to
fits names (SameIndividual one other) = is_among names one && is_among names other
fits names (DifferentIndividuals one other) = is_among names one && is_among names other
fits names (TransitiveProperty word) = true
