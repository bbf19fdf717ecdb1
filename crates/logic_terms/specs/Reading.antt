-- The same meanings as facts, word for word as the standards state them.
use Rattle.std.specs.Prelude.{ℕ, ◌≡◌, ◌≢◌, ◌<◌, ◌⊎◌, List, All, Contains}
use Rattle.logic_terms.specs.Concept.{Concept, Concepts, Everything, Atomic, ComplementOf, IntersectionOf, UnionOf, SomeValuesFrom, AllValuesFrom, HasValue, no_concept, also_concept, Claim, SubClassOf, SubPropertyOf, ClassAssertion, PropertyAssertion, NegativePropertyAssertion, SameIndividual, DifferentIndividuals, TransitiveProperty}
use Rattle.logic_terms.specs.Interpretation.{Interpretation, element_of, elements_of, pairs_of, Relates}
use Rattle.logic_terms.specs.Structure.{Condition, Conditions, Structure, IsA, AreRelated, AreSame, Negation, Implication, Disjunction, no_condition, also_condition, structure}
use Rattle.logic_terms.specs.Truth.{thing_in}

-- an element is in a class: OWL 2, Direct Semantics, section 2.2
abbrev mutual
  pub IsIn : Interpretation → Concept → ℕ → Type 0
  IsIn i Everything x = Unit {0}
  IsIn i (Atomic word) x = Contains (elements_of i word) x
  IsIn i (ComplementOf c) x = ¬ IsIn i c x
  IsIn i (IntersectionOf cs) x = IsInEach i cs x
  IsIn i (UnionOf cs) x = IsInSome i cs x
  IsIn i (SomeValuesFrom role c) x = (y : ℕ) × (y < i.size) × Relates i role x y × IsIn i c y
  IsIn i (AllValuesFrom role c) x = (y : ℕ) → y < i.size → Relates i role x y → IsIn i c y
  IsIn i (HasValue role name) x = Relates i role x (element_of i name)

  pub IsInEach : Interpretation → Concepts → ℕ → Type 0
  IsInEach i no_concept x = Unit {0}
  IsInEach i (also_concept c cs) x = IsIn i c x × IsInEach i cs x

  pub IsInSome : Interpretation → Concepts → ℕ → Type 0
  IsInSome i no_concept x = ⊥
  IsInSome i (also_concept c cs) x = IsIn i c x ⊎ IsInSome i cs x

-- an axiom is true: OWL 2, Direct Semantics, section 2.3
abbrev pub Holds : Interpretation → Claim → Type 0
Holds i (SubClassOf c d) = (x : ℕ) → x < i.size → IsIn i c x → IsIn i d x
Holds i (SubPropertyOf r s) = (x : ℕ) → x < i.size → (y : ℕ) → y < i.size → Relates i r x y → Relates i s x y
Holds i (ClassAssertion c name) = IsIn i c (element_of i name)
Holds i (PropertyAssertion r from to) = Relates i r (element_of i from) (element_of i to)
Holds i (NegativePropertyAssertion r from to) = ¬ Relates i r (element_of i from) (element_of i to)
Holds i (SameIndividual one other) = element_of i one ≡ element_of i other
Holds i (DifferentIndividuals one other) = element_of i one ≢ element_of i other
Holds i (TransitiveProperty word) =
    (x y z : ℕ) → Contains (pairs_of i word) (x, y) → Contains (pairs_of i word) (y, z) → Contains (pairs_of i word) (x, z)

-- an interpretation is a model of axioms
abbrev pub IsModel : Interpretation → List Claim → Type 0
IsModel i claims = All (Holds i) claims

-- g extends f to these referents: it gives each of them an element below the size, and any other what f gives
pub record Extends (size : ℕ) (rs : List ℕ) (f g : ℕ → ℕ) : Type 0 where
  pub introduced : (r : ℕ) → Contains rs r → g r < size
  pub others : (r : ℕ) → ¬ Contains rs r → g r ≡ f r

-- a structure or a condition is true under an assignment: Kamp and Reyle
abbrev mutual
  pub IsTrueUnder : Interpretation → Structure → (ℕ → ℕ) → Type 0
  IsTrueUnder i (structure rs cs) f = (g : ℕ → ℕ) × Extends i.size rs f g × AllTrueUnder i cs g

  -- each extension that makes this structure true has a property
  pub ImpliesOf : Interpretation → Structure → ((ℕ → ℕ) → Type 0) → (ℕ → ℕ) → Type 0
  ImpliesOf i (structure rs cs) P f = (g : ℕ → ℕ) → Extends i.size rs f g → AllTrueUnder i cs g → P g

  pub AllTrueUnder : Interpretation → Conditions → (ℕ → ℕ) → Type 0
  AllTrueUnder i no_condition f = Unit {0}
  AllTrueUnder i (also_condition c cs) f = ConditionTrueUnder i c f × AllTrueUnder i cs f

  pub ConditionTrueUnder : Interpretation → Condition → (ℕ → ℕ) → Type 0
  ConditionTrueUnder i (IsA noun thing) f = Contains (elements_of i noun) (thing_in i f thing)
  ConditionTrueUnder i (AreRelated word from to) f = Contains (pairs_of i word) (thing_in i f from, thing_in i f to)
  ConditionTrueUnder i (AreSame one other) f = thing_in i f one ≡ thing_in i f other
  ConditionTrueUnder i (Negation k) f = ¬ IsTrueUnder i k f
  ConditionTrueUnder i (Implication k l) f = ImpliesOf i k (IsTrueUnder i l) f
  ConditionTrueUnder i (Disjunction k l) f = IsTrueUnder i k f ⊎ IsTrueUnder i l f
