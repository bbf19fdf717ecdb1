-- The axioms of each row: what a construct with these classes, properties and individuals says. Classes are in normal form.
use Rattle.std.specs.Prelude.{ℕ, List, [], ◌∷◌, ◌++◌, map, not, true, false}
use Rattle.wiki_base.specs.declared.numbers.WordId.{WordId}
use Rattle.logic_terms.specs.declared.expressions.Role.{Role}
use Rattle.logic_terms.specs.Same.{inverse}
use Rattle.logic_terms.specs.Complement.{normal_form, complement}
use Rattle.logic_terms.specs.Concept.{Concept, Everything, Atomic, ComplementOf, IntersectionOf, UnionOf, SomeValuesFrom, AllValuesFrom, HasValue, concepts_from, Claim, SubPropertyOf, PropertyAssertion, NegativePropertyAssertion, TransitiveProperty}
use Rattle.logic_terms.specs.Concept as claim
use Rattle.owl_reader.specs.declared.kinds.Construct.{Construct}
use Rattle.owl_reader.specs.declared.kinds.Construct.TheVariants as construct

-- a class below another, and apart from it
abbrev pub below : Concept → Concept → Claim
below c d = claim.SubClassOf (normal_form c) (normal_form d)

abbrev pub apart : Concept → Concept → Claim
apart c d = claim.SubClassOf (normal_form c) (complement d)

-- each with the next
abbrev pub each_next : {X : Type 0} → (X → X → Claim) → List X → List Claim
each_next make [] = []
each_next make (x ∷ []) = []
each_next make (x ∷ y ∷ ys) = make x y ∷ each_next make (y ∷ ys)

-- each with the next, and the last with the first
abbrev pub closing : {X : Type 0} → (X → X → Claim) → X → X → List X → List Claim
closing make first x [] = make x first ∷ []
closing make first x (y ∷ ys) = make x y ∷ closing make first y ys

abbrev pub round : {X : Type 0} → (X → X → Claim) → List X → List Claim
round make [] = []
round make (x ∷ xs) = closing make x x xs

-- all pairs, by the first and then by the second
abbrev pub pairs : {X : Type 0} → (X → X → Claim) → List X → List Claim
pairs make [] = []
pairs make (x ∷ xs) = map (make x) xs ++ pairs make xs

abbrev pub sub_class : List Concept → List Claim
sub_class (c ∷ d ∷ []) = below c d ∷ []
sub_class _ = []

abbrev pub sub_property : List Role → List Claim
sub_property (r ∷ s ∷ []) = SubPropertyOf r s ∷ []
sub_property _ = []

abbrev pub inverses : List Role → List Claim
inverses (r ∷ s ∷ []) = SubPropertyOf r (inverse s) ∷ SubPropertyOf s (inverse r) ∷ []
inverses _ = []

abbrev pub symmetric : List Role → List Claim
symmetric (r ∷ []) = SubPropertyOf r (inverse r) ∷ []
symmetric _ = []

abbrev pub transitive : List Role → List Claim
transitive (r ∷ []) = TransitiveProperty r.id ∷ []
transitive _ = []

abbrev pub domain : List Role → List Concept → List Claim
domain (r ∷ []) (c ∷ []) = below (SomeValuesFrom r Everything) c ∷ []
domain _ _ = []

abbrev pub range : List Role → List Concept → List Claim
range (r ∷ []) (c ∷ []) = below Everything (AllValuesFrom r c) ∷ []
range _ _ = []

abbrev pub member : List Concept → List WordId → List Claim
member (c ∷ []) (a ∷ []) = claim.ClassAssertion (normal_form c) a ∷ []
member _ _ = []

abbrev pub related : (Role → WordId → WordId → Claim) → List Role → List WordId → List Claim
related make (r ∷ []) (a ∷ b ∷ []) = make r a b ∷ []
related make _ _ = []

-- the axioms of a row
abbrev pub claims_by : Construct → List Concept → List Role → List WordId → List Claim
claims_by construct.SubClassOf cs rs names = sub_class cs
claims_by construct.EquivalentClasses cs rs names = round below cs
claims_by construct.DisjointClasses cs rs names = pairs apart cs
claims_by construct.SubObjectPropertyOf cs rs names = sub_property rs
claims_by construct.EquivalentObjectProperties cs rs names = round SubPropertyOf rs
claims_by construct.ObjectPropertyDomain cs rs names = domain rs cs
claims_by construct.ObjectPropertyRange cs rs names = range rs cs
claims_by construct.InverseObjectProperties cs rs names = inverses rs
claims_by construct.SymmetricObjectProperty cs rs names = symmetric rs
claims_by construct.TransitiveObjectProperty cs rs names = transitive rs
claims_by construct.SameIndividual cs rs names = each_next claim.SameIndividual names
claims_by construct.DifferentIndividuals cs rs names = pairs claim.DifferentIndividuals names
claims_by construct.ClassAssertion cs rs names = member cs names
claims_by construct.ObjectPropertyAssertion cs rs names = related PropertyAssertion rs names
claims_by construct.NegativeObjectPropertyAssertion cs rs names = related NegativePropertyAssertion rs names
claims_by _ cs rs names = []

-- Classes

abbrev pub first_class : List Concept → Concept
first_class [] = Everything
first_class (c ∷ cs) = c

abbrev pub first_role : List Role → Role
first_role [] = record { id = record { 0 = 0 }; inverted = false }
first_role (r ∷ rs) = r

abbrev pub first_name : List WordId → WordId
first_name [] = record { 0 = 0 }
first_name (a ∷ names) = a

-- the class of a row
abbrev pub class_by : Construct → List Concept → List Role → List WordId → Concept
class_by construct.ObjectIntersectionOf cs rs names = IntersectionOf (concepts_from cs)
class_by construct.ObjectUnionOf cs rs names = UnionOf (concepts_from cs)
class_by construct.ObjectComplementOf cs rs names = ComplementOf (first_class cs)
class_by construct.ObjectSomeValuesFrom cs rs names = SomeValuesFrom (first_role rs) (first_class cs)
class_by construct.ObjectAllValuesFrom cs rs names = AllValuesFrom (first_role rs) (first_class cs)
class_by construct.ObjectHasValue cs rs names = HasValue (first_role rs) (first_name names)
class_by _ cs rs names = Everything
