-- What the file says: each axiom, with the numbers of its entities.
use Rattle.std.proofs.Common.{◌≡◌, ℕ, Bool, true, false, if◌then◌else◌, ◌&&◌, List, [], ◌∷◌, ◌++◌, map, Option, Some, unwrap_or, refl, ap, ◌∙◌, codes}
use Rattle.std.specs.List.{flat_map}
use Rattle.wiki_base.specs.declared.numbers.WordId.{WordId}
use Rattle.wiki_base.proofs.BoolLaws.{and_first, and_second}
use Rattle.logic_terms.specs.declared.expressions.Role.{Role}
use Rattle.logic_terms.specs.Same.{inverse}
use Rattle.logic_terms.specs.Concept.{Concept, Concepts, Everything, Atomic, ComplementOf, IntersectionOf, UnionOf, SomeValuesFrom, AllValuesFrom, HasValue, no_concept, also_concept, concepts_from, Claim, SubPropertyOf, PropertyAssertion, NegativePropertyAssertion, TransitiveProperty}
use Rattle.logic_terms.specs.Concept as claim
use Rattle.logic_terms.specs.Complement.{normal_form, complement, normal_forms, is_simple, is_normal, each_normal, is_wide}
use Rattle.logic_terms.specs.Plain.{is_plain, is_plain_claim, are_plain}
use Rattle.lexicon.specs.declared.words.Word.{Word}
use Rattle.lexicon.specs.Words.{canonical_form_of}
use Rattle.owl_reader.specs.declared.kinds.Construct.TheVariants as construct
use Rattle.owl_reader.specs.declared.kinds.Entity.{Entity}
use Rattle.owl_reader.specs.declared.kinds.EntityKind.{EntityKind}
use Rattle.owl_reader.specs.declared.kinds.EntityKind.TheVariants as kind
use Rattle.owl_reader.specs.declared.kinds.Makes.TheVariants as makes
use Rattle.owl_reader.specs.declared.kinds.Sort.{Sort}
use Rattle.owl_reader.specs.declared.kinds.Sort.TheVariants as sort
use Rattle.owl_reader.specs.Names.{is_thing, is_nothing}
use Rattle.owl_grammar.specs.Files.{Built, entity, Parts, no_part, one_class, one_role, one_name, joined, named_class, named_role, built_part, part, parts_in, claims_with, claims_in}
use Rattle.owl_file.specs.ReadBack.{is_live_as, class_fits, classes_fit, names_fit, claim_fits, claims_fit, placed, role_with, class_with, classes_with, claim_with}
use Rattle.owl_file.proofs.SpellingLemmas.{one, word_tree, role_tree, class_tree, class_trees, claim_item, word_item}
use Rattle.owl_file.proofs.FitLemmas.{prefixes, local_iri, thing_iri}

-- ---- normal form

module _ (other : WordId → WordId) where
  mutual
    normal_with : (c : Concept) → is_normal c ≡ true → normal_form (class_with other c) ≡ class_with other c
    normal_with Everything h = refl
    normal_with (Atomic a) h = refl
    normal_with (ComplementOf c) h = simple_with c h
    normal_with (IntersectionOf cs) h = ap IntersectionOf (normals_with cs h)
    normal_with (UnionOf cs) h = ap UnionOf (normals_with cs h)
    normal_with (SomeValuesFrom role c) h = ap (SomeValuesFrom (role_with other role)) (normal_with c h)
    normal_with (AllValuesFrom role c) h = ap (AllValuesFrom (role_with other role)) (normal_with c h)
    normal_with (HasValue role name) h = refl

    simple_with : (c : Concept) → is_simple c ≡ true → complement (class_with other c) ≡ ComplementOf (class_with other c)
    simple_with Everything h = refl
    simple_with (Atomic a) h = refl
    simple_with (HasValue role name) h = refl
    simple_with (ComplementOf c) h = cc
    simple_with (IntersectionOf cs) h = cc
    simple_with (UnionOf cs) h = cc
    simple_with (SomeValuesFrom role c) h = cc
    simple_with (AllValuesFrom role c) h = cc

    normals_with : (cs : Concepts) → each_normal cs ≡ true → normal_forms (classes_with other cs) ≡ classes_with other cs
    normals_with no_concept h = refl
    normals_with (also_concept c cs) h = λ i.
        also_concept (normal_with c (and_first (is_normal c) (each_normal cs) h) i) (normals_with cs (and_second (is_normal c) (each_normal cs) h) i)

  plain_with : (c : Concept) → is_plain c ≡ true → normal_form (class_with other c) ≡ class_with other c
  plain_with c h = normal_with c (and_first (is_normal c) (is_wide c) h)

-- the members as a list
abbrev listed : Concepts → List Concept
listed no_concept = []
listed (also_concept c cs) = c ∷ listed cs

listed_back : (cs : Concepts) → concepts_from (listed cs) ≡ cs
listed_back no_concept = refl
listed_back (also_concept c cs) = ap (also_concept c) (listed_back cs)

abbrev some_classes : List Concept → Parts
some_classes cs = record { classes = cs; roles = []; names = [] }

-- ---- what names stand for

class_of_local : (number : Entity → WordId) (text : List ℕ)
    → named_class number (codes "urn:acewiki:" ++ text) ≡ Atomic (number (entity kind.Class (codes "urn:acewiki:" ++ text)))
unfolding is_thing is_nothing
class_of_local number text = refl

class_of_thing : (number : Entity → WordId) → named_class number (codes "http://www.w3.org/2002/07/owl#Thing") ≡ Everything
unfolding is_thing is_nothing
class_of_thing number = refl

-- ---- what trees stand for

-- the IRI of a word
abbrev pub word_iri : List Word → WordId → List ℕ
word_iri live word = codes "urn:acewiki:" ++ unwrap_or (canonical_form_of live word) []

module _ (live : List Word) (number : Entity → WordId)
    (numbers : (k : EntityKind) (a : WordId) → is_live_as live k a ≡ true → number (entity k (word_iri live a)) ≡ placed live a) where
  abbrev form : WordId → Option (List ℕ)
  form = canonical_form_of live

  abbrev other : WordId → WordId
  other = placed live

  name_part : (a : WordId) → is_live_as live kind.Individual a ≡ true → part prefixes number sort.Individual (word_tree form a) ≡ one_name (other a)
  name_part a h =
      ap (λ iri. one_name (number (entity kind.Individual iri))) (local_iri (unwrap_or (canonical_form_of live a) []))
      ∙ ap one_name (numbers kind.Individual a h)

  property_part : (s : Sort) (a : WordId) → s ≡ sort.Property → is_live_as live kind.Property a ≡ true
      → part prefixes number s (word_tree form a) ≡ one_role (record { id = other a; inverted = false })
  property_part s a is h =
      ap (λ s. part prefixes number s (word_tree form a)) is
      ∙ ap (λ iri. one_role (named_role number iri)) (local_iri (unwrap_or (canonical_form_of live a) []))
      ∙ ap (λ (w : WordId). one_role (record { id = w; inverted = false })) (numbers kind.Property a h)

  role_part : (role : Role) → is_live_as live kind.Property role.id ≡ true
      → part prefixes number sort.Property (role_tree form role) ≡ one_role (role_with other role)
  role_part role h = by role.inverted
    where
      by : (b : Bool) → part prefixes number sort.Property
          (if b then Built construct.ObjectInverseOf (one (word_tree form role.id)) else word_tree form role.id)
          ≡ one_role (record { id = other role.id; inverted = b })
      by true =
          ap (λ iri. one_role (inverse (named_role number iri))) (local_iri (unwrap_or (canonical_form_of live role.id) []))
          ∙ ap (λ (w : WordId). one_role (record { id = w; inverted = true })) (numbers kind.Property role.id h)
      by false = property_part sort.Property role.id refl h

  mutual
    class_part : (c : Concept) → class_fits live c ≡ true → part prefixes number sort.Class (class_tree form c) ≡ one_class (class_with other c)
    class_part Everything h = ap (λ iri. one_class (named_class number iri)) thing_iri ∙ ap one_class (class_of_thing number)
    class_part (Atomic a) h =
        ap (λ iri. one_class (named_class number iri)) (local_iri (unwrap_or (canonical_form_of live a) []))
        ∙ ap one_class (class_of_local number (unwrap_or (canonical_form_of live a) []) ∙ ap Atomic (numbers kind.Class a h))
    class_part (ComplementOf c) h = λ i. built_part makes.Class construct.ObjectComplementOf (joined (class_part c h i) no_part)
    class_part (IntersectionOf cs) h =
        (λ i. built_part makes.Class construct.ObjectIntersectionOf (two_part cs h i))
        ∙ ap (λ ds. one_class (IntersectionOf ds)) (listed_back (classes_with other cs))
    class_part (UnionOf cs) h =
        (λ i. built_part makes.Class construct.ObjectUnionOf (two_part cs h i)) ∙ ap (λ ds. one_class (UnionOf ds)) (listed_back (classes_with other cs))
    class_part (SomeValuesFrom role c) h = λ i.
        built_part makes.Class construct.ObjectSomeValuesFrom
        (joined (role_part role (and_first (is_live_as live kind.Property role.id) (class_fits live c) h) i)
        (joined (class_part c (and_second (is_live_as live kind.Property role.id) (class_fits live c) h) i) no_part))
    class_part (AllValuesFrom role c) h = λ i.
        built_part makes.Class construct.ObjectAllValuesFrom
        (joined (role_part role (and_first (is_live_as live kind.Property role.id) (class_fits live c) h) i)
        (joined (class_part c (and_second (is_live_as live kind.Property role.id) (class_fits live c) h) i) no_part))
    class_part (HasValue role name) h = λ i.
        built_part makes.Class construct.ObjectHasValue
        (joined (role_part role (and_first (is_live_as live kind.Property role.id) (is_live_as live kind.Individual name) h) i)
        (joined (name_part name (and_second (is_live_as live kind.Property role.id) (is_live_as live kind.Individual name) h) i) no_part))

    -- the members of an intersection or a union, and those behind the first two
    two_part : (cs : Concepts) → classes_fit live cs ≡ true
        → parts_in prefixes number (sort.Class ∷ sort.Class ∷ []) (Some sort.Class) (class_trees form cs) ≡ some_classes (listed (classes_with other cs))
    two_part no_concept h = refl
    two_part (also_concept c no_concept) h = λ i. joined (class_part c (and_first (class_fits live c) true h) i) no_part
    two_part (also_concept c (also_concept d cs)) h =
        let more = and_second (class_fits live c) (class_fits live d && classes_fit live cs) h in
        λ i.
        joined (class_part c (and_first (class_fits live c) (class_fits live d && classes_fit live cs) h) i)
        (joined (class_part d (and_first (class_fits live d) (classes_fit live cs) more) i)
        (more_part cs (and_second (class_fits live d) (classes_fit live cs) more) i))

    more_part : (cs : Concepts) → classes_fit live cs ≡ true
        → parts_in prefixes number [] (Some sort.Class) (class_trees form cs) ≡ some_classes (listed (classes_with other cs))
    more_part no_concept h = refl
    more_part (also_concept c cs) h = λ i.
        joined (class_part c (and_first (class_fits live c) (classes_fit live cs) h) i)
        (more_part cs (and_second (class_fits live c) (classes_fit live cs) h) i)

  -- two individuals, and a property with two
  two_names : (a b : WordId) → names_fit live a b ≡ true
      → joined (part prefixes number sort.Individual (word_tree form a)) (joined (part prefixes number sort.Individual (word_tree form b)) no_part)
      ≡ record { classes = []; roles = []; names = other a ∷ other b ∷ [] }
  two_names a b h = λ i.
      joined (name_part a (and_first (is_live_as live kind.Individual a) (is_live_as live kind.Individual b) h) i)
      (joined (name_part b (and_second (is_live_as live kind.Individual a) (is_live_as live kind.Individual b) h) i) no_part)

  property_names : (r : Role) (a b : WordId) → (is_live_as live kind.Property r.id && names_fit live a b) ≡ true
      → joined (part prefixes number sort.Property (role_tree form r))
      (joined (part prefixes number sort.Individual (word_tree form a)) (joined (part prefixes number sort.Individual (word_tree form b)) no_part))
      ≡ record { classes = []; roles = role_with other r ∷ []; names = other a ∷ other b ∷ [] }
  property_names r a b h = λ i.
      joined (role_part r (and_first (is_live_as live kind.Property r.id) (names_fit live a b) h) i)
      (two_names a b (and_second (is_live_as live kind.Property r.id) (names_fit live a b) h) i)

  -- an axiom says itself
  claim_said : (c : Claim) → claim_fits live c ≡ true → is_plain_claim c ≡ true → claims_in prefixes number (claim_item form c) ≡ claim_with other c ∷ []
  claim_said (claim.SubClassOf c d) h k =
      (λ i.
      claims_with construct.SubClassOf
      (joined (class_part c (and_first (class_fits live c) (class_fits live d) h) i)
      (joined (class_part d (and_second (class_fits live c) (class_fits live d) h) i) no_part)))
      ∙ (λ i.
      claim.SubClassOf (plain_with other c (and_first (is_plain c) (is_plain d) k) i) (plain_with other d (and_second (is_plain c) (is_plain d) k) i) ∷ [])
  claim_said (SubPropertyOf r s) h k = λ i.
      claims_with construct.SubObjectPropertyOf
      (joined (role_part r (and_first (is_live_as live kind.Property r.id) (is_live_as live kind.Property s.id) h) i)
      (joined (role_part s (and_second (is_live_as live kind.Property r.id) (is_live_as live kind.Property s.id) h) i) no_part))
  claim_said (claim.ClassAssertion c name) h k =
      (λ i.
      claims_with construct.ClassAssertion
      (joined (class_part c (and_first (class_fits live c) (is_live_as live kind.Individual name) h) i)
      (joined (name_part name (and_second (class_fits live c) (is_live_as live kind.Individual name) h) i) no_part)))
      ∙ (λ i. claim.ClassAssertion (plain_with other c k i) (other name) ∷ [])
  claim_said (PropertyAssertion r from to) h k = ap (claims_with construct.ObjectPropertyAssertion) (property_names r from to h)
  claim_said (NegativePropertyAssertion r from to) h k = ap (claims_with construct.NegativeObjectPropertyAssertion) (property_names r from to h)
  claim_said (claim.SameIndividual a b) h k = ap (claims_with construct.SameIndividual) (two_names a b h)
  claim_said (claim.DifferentIndividuals a b) h k = ap (claims_with construct.DifferentIndividuals) (two_names a b h)
  claim_said (TransitiveProperty a) h k = λ i. claims_with construct.TransitiveObjectProperty (joined (property_part sort.Property a refl h i) no_part)

  claims_said : (claims : List Claim) → claims_fit live claims ≡ true → are_plain claims ≡ true
      → flat_map (claims_in prefixes number) (map (claim_item form) claims) ≡ map (claim_with other) claims
  claims_said [] h k = refl
  claims_said (c ∷ cs) h k = λ i.
      claim_said c (and_first (claim_fits live c) (claims_fit live cs) h) (and_first (is_plain_claim c) (are_plain cs) k) i
      ++ claims_said cs (and_second (claim_fits live c) (claims_fit live cs) h) (and_second (is_plain_claim c) (are_plain cs) k) i

  -- declarations say nothing
  pub all_said : (words : List Word) (claims : List Claim) → claims_fit live claims ≡ true → are_plain claims ≡ true
      → flat_map (claims_in prefixes number) (map word_item words ++ map (claim_item form) claims) ≡ map (claim_with other) claims
  all_said [] claims h k = claims_said claims h k
  all_said (w ∷ ws) claims h k = all_said ws claims h k
