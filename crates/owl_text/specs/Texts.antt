-- The texts of classes and axioms, in the functional-style syntax of OWL 2, each word by its canonical form.
-- After OWL 2, Structural Specification, sections 8 and 9, and the profile of docs/MEANING.md.
use Rattle.std.specs.Prelude.{ℕ, ◌++◌, List, [], ◌∷◌, Option, codes, unwrap_or, if◌then◌else◌}
use Rattle.wiki_base.specs.declared.numbers.WordId.{WordId}
use Rattle.logic_terms.specs.declared.expressions.Role.{Role}
use Rattle.logic_terms.specs.Concept.{Concept, Concepts, Everything, Atomic, ComplementOf, IntersectionOf, UnionOf, SomeValuesFrom, AllValuesFrom, HasValue, no_concept, also_concept, Claim, SubClassOf, SubPropertyOf, ClassAssertion, PropertyAssertion, NegativePropertyAssertion, SameIndividual, DifferentIndividuals, TransitiveProperty}

-- a word: a colon and its canonical form. A word without a form is a colon alone.
abbrev pub word_text : (WordId → Option (List ℕ)) → WordId → List ℕ
word_text form word = codes ":" ++ unwrap_or (form word) []

-- a name with arguments behind it
abbrev pub one_argument : List ℕ → List ℕ → List ℕ
one_argument name a = name ++ (a ++ codes ")")

abbrev pub two_arguments : List ℕ → List ℕ → List ℕ → List ℕ
two_arguments name a b = name ++ (a ++ (codes " " ++ (b ++ codes ")")))

abbrev pub three_arguments : List ℕ → List ℕ → List ℕ → List ℕ → List ℕ
three_arguments name a b c = name ++ (a ++ (codes " " ++ (b ++ (codes " " ++ (c ++ codes ")")))))

abbrev pub role_text : (WordId → Option (List ℕ)) → Role → List ℕ
role_text form role = if role.inverted then one_argument (codes "ObjectInverseOf(") (word_text form role.id) else word_text form role.id

-- a class, and members with one space between two
abbrev mutual
  pub class_text : (WordId → Option (List ℕ)) → Concept → List ℕ
  class_text form Everything = codes "owl:Thing"
  class_text form (Atomic word) = word_text form word
  class_text form (ComplementOf c) = one_argument (codes "ObjectComplementOf(") (class_text form c)
  class_text form (IntersectionOf cs) = one_argument (codes "ObjectIntersectionOf(") (classes_text form cs)
  class_text form (UnionOf cs) = one_argument (codes "ObjectUnionOf(") (classes_text form cs)
  class_text form (SomeValuesFrom role c) = two_arguments (codes "ObjectSomeValuesFrom(") (role_text form role) (class_text form c)
  class_text form (AllValuesFrom role c) = two_arguments (codes "ObjectAllValuesFrom(") (role_text form role) (class_text form c)
  class_text form (HasValue role name) = two_arguments (codes "ObjectHasValue(") (role_text form role) (word_text form name)

  pub classes_text : (WordId → Option (List ℕ)) → Concepts → List ℕ
  classes_text form no_concept = []
  classes_text form (also_concept c cs) = class_text form c ++ more_text form cs

  pub more_text : (WordId → Option (List ℕ)) → Concepts → List ℕ
  more_text form no_concept = []
  more_text form (also_concept c cs) = codes " " ++ (class_text form c ++ more_text form cs)

-- an axiom
abbrev pub claim_text : (WordId → Option (List ℕ)) → Claim → List ℕ
claim_text form (SubClassOf c d) = two_arguments (codes "SubClassOf(") (class_text form c) (class_text form d)
claim_text form (SubPropertyOf r s) = two_arguments (codes "SubObjectPropertyOf(") (role_text form r) (role_text form s)
claim_text form (ClassAssertion c name) = two_arguments (codes "ClassAssertion(") (class_text form c) (word_text form name)
claim_text form (PropertyAssertion r from to) = three_arguments (codes "ObjectPropertyAssertion(") (role_text form r) (word_text form from) (word_text form to)
claim_text form (NegativePropertyAssertion r from to) =
    three_arguments (codes "NegativeObjectPropertyAssertion(") (role_text form r) (word_text form from) (word_text form to)
claim_text form (SameIndividual one other) = two_arguments (codes "SameIndividual(") (word_text form one) (word_text form other)
claim_text form (DifferentIndividuals one other) = two_arguments (codes "DifferentIndividuals(") (word_text form one) (word_text form other)
claim_text form (TransitiveProperty word) = one_argument (codes "TransitiveObjectProperty(") (word_text form word)
