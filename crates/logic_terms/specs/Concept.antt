-- Class expressions and axioms as trees, apart from the memory that a `Class` or an `Axiom` lies in.
-- After OWL 2, Structural Specification, sections 8 and 9, under its names.
use Rattle.std.specs.Prelude.{List, [], ◌∷◌}
use Rattle.wiki_base.specs.declared.numbers.WordId.{WordId}
use Rattle.logic_terms.specs.declared.expressions.Role.{Role}

mutual
  pub data Concept : Type 0 where
    Everything : Concept
    Atomic : WordId → Concept
    ComplementOf : Concept → Concept
    IntersectionOf : Concepts → Concept
    UnionOf : Concepts → Concept
    SomeValuesFrom : Role → Concept → Concept
    AllValuesFrom : Role → Concept → Concept
    HasValue : Role → WordId → Concept

  -- the members of an intersection or a union
  pub data Concepts : Type 0 where
    no_concept : Concepts
    also_concept : Concept → Concepts → Concepts

-- a list of concepts as the members of one
abbrev pub concepts_from : List Concept → Concepts
concepts_from [] = no_concept
concepts_from (c ∷ cs) = also_concept c (concepts_from cs)

-- an axiom
pub data Claim : Type 0 where
  SubClassOf : Concept → Concept → Claim
  SubPropertyOf : Role → Role → Claim
  ClassAssertion : Concept → WordId → Claim
  PropertyAssertion : Role → WordId → WordId → Claim
  NegativePropertyAssertion : Role → WordId → WordId → Claim
  SameIndividual : WordId → WordId → Claim
  DifferentIndividuals : WordId → WordId → Claim
  TransitiveProperty : WordId → Claim
