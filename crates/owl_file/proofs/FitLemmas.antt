-- What is written is a file: each tree fits where it stands.
use Rattle.std.proofs.Common.{◌≡◌, ℕ, Bool, true, false, if◌then◌else◌, ◌&&◌, List, [], ◌∷◌, ◌++◌, map, Option, Some, unwrap_or, refl, ap, ◌∙◌, arith, codes}
use Rattle.std.specs.List.{AllByRecursion}
use Rattle.wiki_base.specs.declared.numbers.WordId.{WordId}
use Rattle.wiki_base.proofs.BoolLaws.{and_first, and_second}
use Rattle.logic_terms.specs.declared.expressions.Role.{Role}
use Rattle.logic_terms.specs.Concept.{Concept, Concepts, Everything, Atomic, ComplementOf, IntersectionOf, UnionOf, SomeValuesFrom, AllValuesFrom, HasValue, no_concept, also_concept, Claim, SubPropertyOf, PropertyAssertion, NegativePropertyAssertion, TransitiveProperty}
use Rattle.logic_terms.specs.Concept as claim
use Rattle.logic_terms.specs.Complement.{is_normal, is_wide, has_two, each_wide}
use Rattle.logic_terms.specs.Plain.{is_plain, is_plain_claim, are_plain}
use Rattle.lexicon.specs.declared.kinds.Kind.{Kind}
use Rattle.lexicon.specs.declared.words.Word.{Word}
use Rattle.lexicon.specs.Words.{Listed, canonical_form_of}
use Rattle.owl_reader.specs.declared.kinds.Construct.TheVariants as construct
use Rattle.owl_reader.specs.declared.kinds.Sort.{Sort}
use Rattle.owl_reader.specs.declared.kinds.Sort.TheVariants as sort
use Rattle.owl_reader.specs.Names.{Declared, iri_of, first_prefixes, is_top_property, is_bottom_property}
use Rattle.owl_grammar.specs.Files.{Name, Built, declared_by, is_in_profile_with, is_name, full_iri, takes_names, Fits, Fill, IsItem, IsFile}
use Rattle.owl_file.specs.Written.{canonical_text}
use Rattle.owl_file.specs.ReadBack.{kind_of}
use Rattle.owl_file.proofs.SpellingLemmas.{one, local_tree, word_tree, role_tree, class_tree, class_trees, claim_item, word_item, only_line, written_file}

-- ---- the prefixes

abbrev pub prefixes : Declared
prefixes = declared_by first_prefixes (only_line ∷ [])

pub wiki_iri : iri_of prefixes [] ≡ Some (codes "urn:acewiki:")
unfolding first_prefixes
wiki_iri = refl

pub owl_iri : iri_of prefixes (codes "owl") ≡ Some (codes "http://www.w3.org/2002/07/owl#")
unfolding first_prefixes
owl_iri = refl

-- a name of the wiki's namespace, and owl:Thing
abbrev pub local_name : List ℕ → Name
local_name text = record { prefix = []; local = text }

abbrev pub thing_name : Name
thing_name = record { prefix = codes "owl"; local = codes "Thing" }

in_profile : (text : List ℕ) → is_in_profile_with (Some (codes "urn:acewiki:")) text false ≡ true
unfolding is_top_property is_bottom_property
in_profile text = refl

thing_in_profile : is_in_profile_with (Some (codes "http://www.w3.org/2002/07/owl#")) (codes "Thing") false ≡ true
unfolding is_top_property is_bottom_property
thing_in_profile = refl

local_is_name : (text : List ℕ) → is_name prefixes (local_name text) ≡ true
local_is_name text = ap (λ o. is_in_profile_with o text false) wiki_iri ∙ in_profile text

thing_is_name : is_name prefixes thing_name ≡ true
thing_is_name = ap (λ o. is_in_profile_with o (codes "Thing") false) owl_iri ∙ thing_in_profile

pub local_iri : (text : List ℕ) → full_iri prefixes (local_name text) ≡ codes "urn:acewiki:" ++ text
local_iri text = ap (λ (o : Option (List ℕ)). unwrap_or o [] ++ text) wiki_iri

pub thing_iri : full_iri prefixes thing_name ≡ codes "http://www.w3.org/2002/07/owl#Thing"
thing_iri = ap (λ (o : Option (List ℕ)). unwrap_or o [] ++ codes "Thing") owl_iri

first_prefix_fits : is_in_profile_with (iri_of first_prefixes []) [] true ≡ true
unfolding first_prefixes
first_prefix_fits = refl

-- ---- trees

local_fits : (s : Sort) (text : List ℕ) → takes_names s ≡ true → Fits prefixes s (local_tree text)
local_fits s text h = (h, local_is_name text)

module _ (form : WordId → Option (List ℕ)) where
  word_fits : (s : Sort) (word : WordId) → takes_names s ≡ true → Fits prefixes s (word_tree form word)
  word_fits s word h = local_fits s (unwrap_or (form word) []) h

  role_fits : (role : Role) → Fits prefixes sort.Property (role_tree form role)
  role_fits role = by role.inverted
    where
      by : (b : Bool) → Fits prefixes sort.Property (if b then Built construct.ObjectInverseOf (one (word_tree form role.id)) else word_tree form role.id)
      by true = (refl, (word_fits sort.PropertyName role.id refl, tt))
      by false = word_fits sort.Property role.id refl

  mutual
    class_fits : (c : Concept) → is_wide c ≡ true → Fits prefixes sort.Class (class_tree form c)
    class_fits Everything h = (refl, thing_is_name)
    class_fits (Atomic word) h = word_fits sort.Class word refl
    class_fits (ComplementOf c) h = (refl, (class_fits c h, tt))
    class_fits (IntersectionOf cs) h = (refl, two_fit cs h)
    class_fits (UnionOf cs) h = (refl, two_fit cs h)
    class_fits (SomeValuesFrom role c) h = (refl, (role_fits role, (class_fits c h, tt)))
    class_fits (AllValuesFrom role c) h = (refl, (role_fits role, (class_fits c h, tt)))
    class_fits (HasValue role name) h = (refl, (role_fits role, (word_fits sort.Individual name refl, tt)))

    two_fit : (cs : Concepts) → (has_two cs && each_wide cs) ≡ true → Fill prefixes (sort.Class ∷ sort.Class ∷ []) (Some sort.Class) (class_trees form cs)
    two_fit no_concept h = cc
    two_fit (also_concept c no_concept) h = cc
    two_fit (also_concept c (also_concept d cs)) h =
        let more = and_second (is_wide c) (is_wide d && each_wide cs) h in (
          class_fits c (and_first (is_wide c) (is_wide d && each_wide cs) h),
          (class_fits d (and_first (is_wide d) (each_wide cs) more), more_fit cs (and_second (is_wide d) (each_wide cs) more)),
        )

    more_fit : (cs : Concepts) → each_wide cs ≡ true → Fill prefixes [] (Some sort.Class) (class_trees form cs)
    more_fit no_concept h = tt
    more_fit (also_concept c cs) h = (class_fits c (and_first (is_wide c) (each_wide cs) h), more_fit cs (and_second (is_wide c) (each_wide cs) h))

  wide : (c : Concept) → is_plain c ≡ true → is_wide c ≡ true
  wide c h = and_second (is_normal c) (is_wide c) h

  claim_fits : (stated : Claim) → is_plain_claim stated ≡ true → IsItem prefixes (claim_item form stated)
  claim_fits (claim.SubClassOf c d) h =
      (refl, tt, (class_fits c (wide c (and_first (is_plain c) (is_plain d) h)), (class_fits d (wide d (and_second (is_plain c) (is_plain d) h)), tt)))
  claim_fits (SubPropertyOf r s) h = (refl, tt, (role_fits r, (role_fits s, tt)))
  claim_fits (claim.ClassAssertion c name) h = (refl, tt, (class_fits c (wide c h), (word_fits sort.Individual name refl, tt)))
  claim_fits (PropertyAssertion r from to) h =
      (refl, tt, (role_fits r, (word_fits sort.Individual from refl, (word_fits sort.Individual to refl, tt))))
  claim_fits (NegativePropertyAssertion r from to) h =
      (refl, tt, (role_fits r, (word_fits sort.Individual from refl, (word_fits sort.Individual to refl, tt))))
  claim_fits (claim.SameIndividual a b) h = (refl, tt, (word_fits sort.Individual a refl, (word_fits sort.Individual b refl, tt)))
  claim_fits (claim.DifferentIndividuals a b) h = (refl, tt, (word_fits sort.Individual a refl, (word_fits sort.Individual b refl, tt)))
  claim_fits (TransitiveProperty a) h = (refl, tt, (word_fits sort.Property a refl, tt))

  claims_are_items : (claims : List Claim) → are_plain claims ≡ true → AllByRecursion (IsItem prefixes) (map (claim_item form) claims)
  claims_are_items [] h = tt
  claims_are_items (c ∷ cs) h =
      (claim_fits c (and_first (is_plain_claim c) (are_plain cs) h), claims_are_items cs (and_second (is_plain_claim c) (are_plain cs) h))

-- a word as an item
entity_fits : (k : Kind) (text : List ℕ) → Fits prefixes sort.Declared (Built (construct.Entity (kind_of k)) (one (local_tree text)))
entity_fits k text = by k
  where
    by : (k : Kind) → Fits prefixes sort.Declared (Built (construct.Entity (kind_of k)) (one (local_tree text)))
    by Kind.Noun = (refl, (local_fits (sort.Name (kind_of Kind.Noun)) text refl, tt))
    by Kind.Name = (refl, (local_fits (sort.Name (kind_of Kind.Name)) text refl, tt))
    by Kind.Of = (refl, (local_fits (sort.Name (kind_of Kind.Of)) text refl, tt))
    by Kind.Verb = (refl, (local_fits (sort.Name (kind_of Kind.Verb)) text refl, tt))
    by Kind.Adjective = (refl, (local_fits (sort.Name (kind_of Kind.Adjective)) text refl, tt))

items_join : (live : List Word) (form : WordId → Option (List ℕ)) (claims : List Claim) → are_plain claims ≡ true
    → AllByRecursion (IsItem prefixes) (map word_item live ++ map (claim_item form) claims)
items_join [] form claims h = claims_are_items form claims h
items_join (w ∷ ws) form claims h = ((refl, tt, (entity_fits w.forms.kind (canonical_text w), tt)), items_join ws form claims h)

pub written_is_file : (words : Listed) (claims : List Claim) → are_plain claims ≡ true → IsFile (written_file words claims)
written_is_file words claims h = record {
  lines = (refl, first_prefix_fits, tt);
  iris = omega arith;
  items = items_join words.live (canonical_form_of words.live) claims h;
}
