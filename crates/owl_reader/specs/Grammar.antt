-- The grammar between parentheses: the keywords, what stands in each construct, and what the construct makes.
-- After OWL 2, Structural Specification, sections 3.7 and 5 to 9, and the profile of docs/OWL.md.
use Rattle.std.specs.Prelude.{ℕ, Bool, true, false, ◌&&◌, ◌==◌, if◌then◌else◌, List, [], ◌∷◌, Option, Some, None, codes}
use Rattle.std.specs.List.{list_any}
use Rattle.owl_reader.specs.declared.kinds.EntityKind.{EntityKind}
use Rattle.owl_reader.specs.declared.kinds.EntityKind.TheVariants as kind
use Rattle.owl_reader.specs.declared.kinds.Sort.{Sort}
use Rattle.owl_reader.specs.declared.kinds.Sort.TheVariants as sort
use Rattle.owl_reader.specs.declared.kinds.Construct.{Construct}
use Rattle.owl_reader.specs.declared.kinds.Construct.TheVariants.{Ontology, Declaration, Entity, AnnotationProperty, SubClassOf, EquivalentClasses, DisjointClasses, SubObjectPropertyOf, EquivalentObjectProperties, ObjectPropertyDomain, ObjectPropertyRange, InverseObjectProperties, SymmetricObjectProperty, TransitiveObjectProperty, SameIndividual, DifferentIndividuals, ClassAssertion, ObjectPropertyAssertion, NegativeObjectPropertyAssertion, ObjectIntersectionOf, ObjectUnionOf, ObjectComplementOf, ObjectSomeValuesFrom, ObjectAllValuesFrom, ObjectHasValue, ObjectInverseOf}
use Rattle.owl_reader.specs.declared.kinds.Makes.{Makes}
use Rattle.owl_reader.specs.declared.kinds.Makes.TheVariants as makes

-- the same bytes
abbrev pub same_bytes : List ℕ → List ℕ → Bool
same_bytes [] [] = true
same_bytes [] (y ∷ ys) = false
same_bytes (x ∷ xs) [] = false
same_bytes (x ∷ xs) (y ∷ ys) = (x == y) && same_bytes xs ys

-- among these texts
abbrev pub is_among : List (List ℕ) → List ℕ → Bool
is_among texts word = list_any (same_bytes word) texts

abbrev pub entity_keyword : EntityKind → List ℕ
entity_keyword kind.Class = codes "Class"
entity_keyword kind.Property = codes "ObjectProperty"
entity_keyword kind.Individual = codes "NamedIndividual"

-- the keyword before a construct's parenthesis
abbrev pub keyword : Construct → List ℕ
keyword Ontology = codes "Ontology"
keyword Declaration = codes "Declaration"
keyword (Entity k) = entity_keyword k
keyword AnnotationProperty = codes "AnnotationProperty"
keyword SubClassOf = codes "SubClassOf"
keyword EquivalentClasses = codes "EquivalentClasses"
keyword DisjointClasses = codes "DisjointClasses"
keyword SubObjectPropertyOf = codes "SubObjectPropertyOf"
keyword EquivalentObjectProperties = codes "EquivalentObjectProperties"
keyword ObjectPropertyDomain = codes "ObjectPropertyDomain"
keyword ObjectPropertyRange = codes "ObjectPropertyRange"
keyword InverseObjectProperties = codes "InverseObjectProperties"
keyword SymmetricObjectProperty = codes "SymmetricObjectProperty"
keyword TransitiveObjectProperty = codes "TransitiveObjectProperty"
keyword SameIndividual = codes "SameIndividual"
keyword DifferentIndividuals = codes "DifferentIndividuals"
keyword ClassAssertion = codes "ClassAssertion"
keyword ObjectPropertyAssertion = codes "ObjectPropertyAssertion"
keyword NegativeObjectPropertyAssertion = codes "NegativeObjectPropertyAssertion"
keyword ObjectIntersectionOf = codes "ObjectIntersectionOf"
keyword ObjectUnionOf = codes "ObjectUnionOf"
keyword ObjectComplementOf = codes "ObjectComplementOf"
keyword ObjectSomeValuesFrom = codes "ObjectSomeValuesFrom"
keyword ObjectAllValuesFrom = codes "ObjectAllValuesFrom"
keyword ObjectHasValue = codes "ObjectHasValue"
keyword ObjectInverseOf = codes "ObjectInverseOf"

-- what a keyword may begin among an ontology's items, where a class stands, where a property does, and in a declaration
abbrev pub item_constructs : List Construct
item_constructs =
    SubClassOf ∷ ClassAssertion ∷ ObjectPropertyAssertion ∷ Declaration ∷ EquivalentClasses ∷ DisjointClasses ∷ SubObjectPropertyOf
    ∷ EquivalentObjectProperties ∷ ObjectPropertyDomain ∷ ObjectPropertyRange ∷ InverseObjectProperties ∷ SymmetricObjectProperty
    ∷ TransitiveObjectProperty ∷ SameIndividual ∷ DifferentIndividuals ∷ NegativeObjectPropertyAssertion ∷ []

abbrev pub class_constructs : List Construct
class_constructs =
    ObjectIntersectionOf ∷ ObjectUnionOf ∷ ObjectComplementOf ∷ ObjectSomeValuesFrom ∷ ObjectAllValuesFrom ∷ ObjectHasValue ∷ []

abbrev pub property_constructs : List Construct
property_constructs = ObjectInverseOf ∷ []

abbrev pub declared_constructs : List Construct
declared_constructs = Entity kind.Class ∷ Entity kind.Property ∷ Entity kind.Individual ∷ AnnotationProperty ∷ []

-- the construct of the keyword, among these
abbrev pub construct_among : List Construct → List ℕ → Option Construct
construct_among [] word = None
construct_among (c ∷ cs) word = if same_bytes word (keyword c) then Some c else construct_among cs word

-- what must stand in a construct, in order
abbrev pub sorts : Construct → List Sort
sorts Ontology = []
sorts Declaration = sort.Declared ∷ []
sorts (Entity k) = sort.Name k ∷ []
sorts AnnotationProperty = sort.AnnotationName ∷ []
sorts SubClassOf = sort.Class ∷ sort.Class ∷ []
sorts EquivalentClasses = sort.Class ∷ sort.Class ∷ []
sorts DisjointClasses = sort.Class ∷ sort.Class ∷ []
sorts SubObjectPropertyOf = sort.Property ∷ sort.Property ∷ []
sorts EquivalentObjectProperties = sort.Property ∷ sort.Property ∷ []
sorts ObjectPropertyDomain = sort.Property ∷ sort.Class ∷ []
sorts ObjectPropertyRange = sort.Property ∷ sort.Class ∷ []
sorts InverseObjectProperties = sort.Property ∷ sort.Property ∷ []
sorts SymmetricObjectProperty = sort.Property ∷ []
sorts TransitiveObjectProperty = sort.Property ∷ []
sorts SameIndividual = sort.Individual ∷ sort.Individual ∷ []
sorts DifferentIndividuals = sort.Individual ∷ sort.Individual ∷ []
sorts ClassAssertion = sort.Class ∷ sort.Individual ∷ []
sorts ObjectPropertyAssertion = sort.Property ∷ sort.Individual ∷ sort.Individual ∷ []
sorts NegativeObjectPropertyAssertion = sort.Property ∷ sort.Individual ∷ sort.Individual ∷ []
sorts ObjectIntersectionOf = sort.Class ∷ sort.Class ∷ []
sorts ObjectUnionOf = sort.Class ∷ sort.Class ∷ []
sorts ObjectComplementOf = sort.Class ∷ []
sorts ObjectSomeValuesFrom = sort.Property ∷ sort.Class ∷ []
sorts ObjectAllValuesFrom = sort.Property ∷ sort.Class ∷ []
sorts ObjectHasValue = sort.Property ∷ sort.Individual ∷ []
sorts ObjectInverseOf = sort.PropertyName ∷ []

-- what may stand behind those, as often as one likes
abbrev pub repeats : Construct → Option Sort
repeats Ontology = Some sort.Item
repeats EquivalentClasses = Some sort.Class
repeats DisjointClasses = Some sort.Class
repeats EquivalentObjectProperties = Some sort.Property
repeats SameIndividual = Some sort.Individual
repeats DifferentIndividuals = Some sort.Individual
repeats ObjectIntersectionOf = Some sort.Class
repeats ObjectUnionOf = Some sort.Class
repeats _ = None

-- what a construct makes
abbrev pub makes_of : Construct → Makes
makes_of Ontology = makes.End
makes_of (Entity k) = makes.Declared
makes_of AnnotationProperty = makes.Declared
makes_of ObjectIntersectionOf = makes.Class
makes_of ObjectUnionOf = makes.Class
makes_of ObjectComplementOf = makes.Class
makes_of ObjectSomeValuesFrom = makes.Class
makes_of ObjectAllValuesFrom = makes.Class
makes_of ObjectHasValue = makes.Class
makes_of ObjectInverseOf = makes.Property
makes_of _ = makes.Axioms

-- annotations may stand in front in axioms and declarations
abbrev pub takes_annotations : Makes → Bool
takes_annotations makes.Axioms = true
takes_annotations _ = false

-- what is passed over among an ontology's items
abbrev pub is_annotation : List ℕ → Bool
is_annotation word = is_among (codes "Annotation" ∷ codes "AnnotationAssertion" ∷ codes "SubAnnotationPropertyOf"
    ∷ codes "AnnotationPropertyDomain" ∷ codes "AnnotationPropertyRange" ∷ []) word
