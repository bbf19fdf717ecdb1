-- Absorbed knowledge, apart from the memory that it lies in, and its models.
use Rattle.std.specs.Prelude.{◌≡◌, ◌&&◌, ◌||◌, Bool, true, List, All, IsTrue, Option, Some}
use Rattle.std.specs.List.{list_any, list_all}
use Rattle.std.specs.Map.{lookup}
use Rattle.wiki_base.specs.declared.numbers.WordId.{WordId}
use Rattle.logic_terms.specs.declared.expressions.Role.{Role}
use Rattle.logic_terms.specs.Concept.{Concept, Concepts, Everything, Atomic, ComplementOf, IntersectionOf, UnionOf, SomeValuesFrom, AllValuesFrom, HasValue, no_concept, also_concept, SubClassOf, SubPropertyOf, ClassAssertion, PropertyAssertion, SameIndividual, DifferentIndividuals, TransitiveProperty}
use Rattle.logic_terms.specs.Interpretation.{Interpretation, is_word, words_rise}
use Rattle.logic_terms.specs.Meaning.{holds}
use Rattle.logic_terms.specs.Reading.{Holds}
use Rattle.logic_terms.specs.Same.{same_role, inverse}

-- what is known, sorted for a search
pub record Theory : Type 0 where
  -- the given names, each with its representative
  pub names : List (WordId × WordId)
  -- pairs of different roles, the one below first
  pub hierarchy : List (Role × Role)
  -- the relation words that are transitive
  pub transitive : List WordId
  -- the class that a name is in
  pub assertions : List (WordId × Concept)
  -- two names that are a pair of a role
  pub edges : List (Role × WordId × WordId)
  -- two names with different elements
  pub differences : List (WordId × WordId)
  -- the class that a class word's elements are in
  pub unfoldings : List (WordId × Concept)
  -- the classes that each element is in
  pub general : List Concept

-- the representative of a given name
abbrev pub representative : Theory → WordId → Option WordId
representative k name = lookup (is_word name) k.names

-- whether a role is below another: it is the same, or the hierarchy has the pair
abbrev pub is_below : Theory → Role → Role → Bool
is_below k r s = same_role r s || list_any (λ p. same_role p.0 r && same_role p.1 s) k.hierarchy

-- whether a role is transitive: its word is
abbrev pub is_transitive : Theory → Role → Bool
is_transitive k r = list_any (is_word r.id) k.transitive

-- an interpretation is a model of the knowledge: names have the elements of their representatives, the pairs of the
-- hierarchy are inclusions, the relations of the transitive words are transitive, assertions, edges and differences hold,
-- each unfolding is an inclusion, and each general class has all elements
pub record IsModelOf (i : Interpretation) (k : Theory) : Type 0 where
  pub names : All (λ e. Holds i (SameIndividual e.0 e.1)) k.names
  pub hierarchy : All (λ p. Holds i (SubPropertyOf p.0 p.1)) k.hierarchy
  pub transitive : All (λ w. Holds i (TransitiveProperty w)) k.transitive
  pub assertions : All (λ e. Holds i (ClassAssertion e.1 e.0)) k.assertions
  pub edges : All (λ e. Holds i (PropertyAssertion e.0 e.1 e.2)) k.edges
  pub differences : All (λ d. Holds i (DifferentIndividuals d.0 d.1)) k.differences
  pub unfoldings : All (λ e. Holds i (SubClassOf (Atomic e.0) e.1)) k.unfoldings
  pub general : All (λ c. Holds i (SubClassOf Everything c)) k.general

-- the same as a test
abbrev pub is_model_of : Interpretation → Theory → Bool
is_model_of i k =
    list_all (λ e. holds i (SameIndividual e.0 e.1)) k.names
    && (list_all (λ p. holds i (SubPropertyOf p.0 p.1)) k.hierarchy
    && (list_all (λ w. holds i (TransitiveProperty w)) k.transitive
    && (list_all (λ e. holds i (ClassAssertion e.1 e.0)) k.assertions
    && (list_all (λ e. holds i (PropertyAssertion e.0 e.1 e.2)) k.edges
    && (list_all (λ d. holds i (DifferentIndividuals d.0 d.1)) k.differences
    && (list_all (λ e. holds i (SubClassOf (Atomic e.0) e.1)) k.unfoldings
    && list_all (λ c. holds i (SubClassOf Everything c)) k.general))))))

-- whether a name is one of the given names
abbrev pub is_given : Theory → WordId → Bool
is_given k name = list_any (λ e. is_word name e.0) k.names

-- whether each name in a class is given
abbrev mutual
  pub names_given : Theory → Concept → Bool
  names_given k Everything = true
  names_given k (Atomic word) = true
  names_given k (ComplementOf c) = names_given k c
  names_given k (IntersectionOf cs) = each_names_given k cs
  names_given k (UnionOf cs) = each_names_given k cs
  names_given k (SomeValuesFrom role c) = names_given k c
  names_given k (AllValuesFrom role c) = names_given k c
  names_given k (HasValue role name) = is_given k name

  pub each_names_given : Theory → Concepts → Bool
  each_names_given k no_concept = true
  each_names_given k (also_concept c cs) = names_given k c && each_names_given k cs

-- knowledge is lawful: the given names rise, so that each has one representative; each representative is a given name
-- that represents itself; each name elsewhere is given; the hierarchy, with each role below itself, is transitive, and
-- has with each pair the pair of the two inverses
pub record IsLawful (k : Theory) : Type 0 where
  pub rising : words_rise k.names ≡ true
  pub representatives : All (λ e. representative k e.1 ≡ Some e.1) k.names
  pub assertions : All (λ e. IsTrue (is_given k e.0 && names_given k e.1)) k.assertions
  pub edges : All (λ e. IsTrue (is_given k e.1 && is_given k e.2)) k.edges
  pub differences : All (λ d. IsTrue (is_given k d.0 && is_given k d.1)) k.differences
  pub unfoldings : All (λ e. IsTrue (names_given k e.1)) k.unfoldings
  pub general : All (λ c. IsTrue (names_given k c)) k.general
  pub transitive : (r s t : Role) → IsTrue (is_below k r s) → IsTrue (is_below k s t) → IsTrue (is_below k r t)
  pub inverses : (r s : Role) → IsTrue (is_below k r s) → IsTrue (is_below k (inverse r) (inverse s))
