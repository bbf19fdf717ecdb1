-- Negation normal form: complements stand before Thing, a class word and a value alone.
use Rattle.std.specs.Prelude.{◌&&◌, Bool, true, false}
use Rattle.logic_terms.specs.Concept.{Concept, Concepts, Everything, Atomic, ComplementOf, IntersectionOf, UnionOf, SomeValuesFrom, AllValuesFrom, HasValue, no_concept, also_concept}

-- the normal form of a class, and that of its complement
abbrev mutual
  pub normal_form : Concept → Concept
  normal_form Everything = Everything
  normal_form (Atomic word) = Atomic word
  normal_form (ComplementOf c) = complement c
  normal_form (IntersectionOf cs) = IntersectionOf (normal_forms cs)
  normal_form (UnionOf cs) = UnionOf (normal_forms cs)
  normal_form (SomeValuesFrom role c) = SomeValuesFrom role (normal_form c)
  normal_form (AllValuesFrom role c) = AllValuesFrom role (normal_form c)
  normal_form (HasValue role name) = HasValue role name

  pub complement : Concept → Concept
  complement Everything = ComplementOf Everything
  complement (Atomic word) = ComplementOf (Atomic word)
  complement (ComplementOf c) = normal_form c
  complement (IntersectionOf cs) = UnionOf (complements cs)
  complement (UnionOf cs) = IntersectionOf (complements cs)
  complement (SomeValuesFrom role c) = AllValuesFrom role (complement c)
  complement (AllValuesFrom role c) = SomeValuesFrom role (complement c)
  complement (HasValue role name) = ComplementOf (HasValue role name)

  pub normal_forms : Concepts → Concepts
  normal_forms no_concept = no_concept
  normal_forms (also_concept c cs) = also_concept (normal_form c) (normal_forms cs)

  pub complements : Concepts → Concepts
  complements no_concept = no_concept
  complements (also_concept c cs) = also_concept (complement c) (complements cs)

-- what a complement may stand before in normal form
abbrev pub is_simple : Concept → Bool
is_simple Everything = true
is_simple (Atomic word) = true
is_simple (HasValue role name) = true
is_simple _ = false

-- whether a class is in negation normal form
abbrev mutual
  pub is_normal : Concept → Bool
  is_normal Everything = true
  is_normal (Atomic word) = true
  is_normal (ComplementOf c) = is_simple c
  is_normal (IntersectionOf cs) = each_normal cs
  is_normal (UnionOf cs) = each_normal cs
  is_normal (SomeValuesFrom role c) = is_normal c
  is_normal (AllValuesFrom role c) = is_normal c
  is_normal (HasValue role name) = true

  pub each_normal : Concepts → Bool
  each_normal no_concept = true
  each_normal (also_concept c cs) = is_normal c && each_normal cs

-- whether there are at least two members
abbrev pub has_two : Concepts → Bool
has_two no_concept = false
has_two (also_concept c no_concept) = false
has_two (also_concept c (also_concept d cs)) = true

-- whether each intersection and each union in a class has at least two members
abbrev mutual
  pub is_wide : Concept → Bool
  is_wide Everything = true
  is_wide (Atomic word) = true
  is_wide (ComplementOf c) = is_wide c
  is_wide (IntersectionOf cs) = has_two cs && each_wide cs
  is_wide (UnionOf cs) = has_two cs && each_wide cs
  is_wide (SomeValuesFrom role c) = is_wide c
  is_wide (AllValuesFrom role c) = is_wide c
  is_wide (HasValue role name) = true

  pub each_wide : Concepts → Bool
  each_wide no_concept = true
  each_wide (also_concept c cs) = is_wide c && each_wide cs
