-- Frames that fit entities: what they have fits, and what must still come makes enough of it.
use Rattle.std.proofs.Common.{◌≡◌, ◌&&◌, Bool, true, false, List, [], ◌∷◌, ◌++◌, Option, Some, None, refl}
use Rattle.std.specs.List.{list_all}
use Rattle.std.proofs.lemmas.Bool.{and_from}
use Rattle.wiki_base.specs.declared.numbers.WordId.{WordId}
use Rattle.wiki_base.proofs.BoolLaws.{and_first, and_second}
use Rattle.wiki_base.proofs.ListLaws.{all_append}
use Rattle.logic_terms.specs.declared.expressions.Role.{Role}
use Rattle.logic_terms.specs.Concept.{Concept}
use Rattle.owl_reader.specs.declared.kinds.Construct.{Construct}
use Rattle.owl_reader.specs.declared.kinds.Construct.TheVariants as construct
use Rattle.owl_reader.specs.declared.kinds.Sort.{Sort}
use Rattle.owl_reader.specs.declared.kinds.Sort.TheVariants as sort
use Rattle.owl_reader.specs.Grammar.{repeats}
use Rattle.owl_reader.specs.Claims.{class_by}
use Rattle.owl_reader.specs.Reading.{Frame, new_frame, behind, first_sort, next_sort, with_any, with_class, with_role, with_name}
use Rattle.owl_intake.proofs.ClassFits.{fits_class, intersection_fits, union_fits, first_fits}

-- two members have come or must still come, and so has the individual of a value
abbrev pub members_come : List Sort → List Concept → Bool
members_come [] (c ∷ d ∷ cs) = true
members_come (sort.Class ∷ []) (c ∷ cs) = true
members_come (sort.Class ∷ sort.Class ∷ []) cs = true
members_come _ _ = false

abbrev pub value_comes : List Sort → List WordId → Bool
value_comes [] (a ∷ names) = true
value_comes (sort.Individual ∷ []) names = true
value_comes (sort.Property ∷ sort.Individual ∷ []) names = true
value_comes _ _ = false

abbrev pub has_enough : Construct → List Sort → List Concept → List WordId → Bool
has_enough construct.ObjectIntersectionOf wanted classes names = members_come wanted classes
has_enough construct.ObjectUnionOf wanted classes names = members_come wanted classes
has_enough construct.ObjectHasValue wanted classes names = value_comes wanted names
has_enough _ wanted classes names = true

-- what a frame doesn't keep
abbrev pub is_unkept : Option Sort → Bool
is_unkept None = false
is_unkept (Some sort.Class) = false
is_unkept (Some sort.Individual) = false
is_unkept (Some s) = true

members_more : (wanted : List Sort) (classes : List Concept) (c : Concept) → members_come wanted classes ≡ true
    → members_come (behind wanted) (classes ++ c ∷ []) ≡ true
members_more [] [] c h = cc
members_more [] (d ∷ []) c h = cc
members_more [] (d ∷ e ∷ ds) c h = refl
members_more (sort.Class ∷ []) [] c h = cc
members_more (sort.Class ∷ []) (d ∷ []) c h = refl
members_more (sort.Class ∷ []) (d ∷ e ∷ ds) c h = refl
members_more (sort.Class ∷ sort.Class ∷ []) [] c h = refl
members_more (sort.Class ∷ sort.Class ∷ []) (d ∷ ds) c h = refl
members_more _ _ c h = cc

-- one class more
enough_class : (k : Construct) (wanted : List Sort) (classes : List Concept) (names : List WordId) (c : Concept)
    → first_sort wanted (repeats k) ≡ Some sort.Class → has_enough k wanted classes names ≡ true
    → has_enough k (behind wanted) (classes ++ c ∷ []) names ≡ true
enough_class construct.ObjectIntersectionOf wanted classes names c next h = members_more wanted classes c h
enough_class construct.ObjectUnionOf wanted classes names c next h = members_more wanted classes c h
enough_class construct.ObjectHasValue [] classes names c next h = cc
enough_class construct.ObjectHasValue (sort.Class ∷ wanted) classes names c next h = cc
enough_class construct.ObjectHasValue (s ∷ wanted) classes names c next h = cc
enough_class _ wanted classes names c next h = refl

-- one name more
enough_name : (k : Construct) (wanted : List Sort) (classes : List Concept) (names : List WordId) (a : WordId)
    → first_sort wanted (repeats k) ≡ Some sort.Individual → has_enough k wanted classes names ≡ true
    → has_enough k (behind wanted) classes (names ++ a ∷ []) ≡ true
enough_name construct.ObjectIntersectionOf [] classes names a next h = cc
enough_name construct.ObjectIntersectionOf (sort.Individual ∷ wanted) classes names a next h = cc
enough_name construct.ObjectIntersectionOf (s ∷ wanted) classes names a next h = cc
enough_name construct.ObjectUnionOf [] classes names a next h = cc
enough_name construct.ObjectUnionOf (sort.Individual ∷ wanted) classes names a next h = cc
enough_name construct.ObjectUnionOf (s ∷ wanted) classes names a next h = cc
enough_name construct.ObjectHasValue [] classes names a next h = cc
enough_name construct.ObjectHasValue (sort.Individual ∷ []) classes [] a next h = refl
enough_name construct.ObjectHasValue (sort.Individual ∷ []) classes (b ∷ names) a next h = refl
enough_name construct.ObjectHasValue (sort.Individual ∷ s ∷ wanted) classes names a next h = cc
enough_name construct.ObjectHasValue (s ∷ wanted) classes names a next h = cc
enough_name _ wanted classes names a next h = refl

-- one of what isn't kept more
enough_other : (k : Construct) (wanted : List Sort) (classes : List Concept) (names : List WordId) → is_unkept (first_sort wanted (repeats k)) ≡ true
    → has_enough k wanted classes names ≡ true → has_enough k (behind wanted) classes names ≡ true
enough_other construct.ObjectIntersectionOf [] classes names next h = cc
enough_other construct.ObjectIntersectionOf (sort.Class ∷ wanted) classes names next h = cc
enough_other construct.ObjectIntersectionOf (s ∷ wanted) classes names next h = cc
enough_other construct.ObjectUnionOf [] classes names next h = cc
enough_other construct.ObjectUnionOf (sort.Class ∷ wanted) classes names next h = cc
enough_other construct.ObjectUnionOf (s ∷ wanted) classes names next h = cc
enough_other construct.ObjectHasValue [] classes names next h = cc
enough_other construct.ObjectHasValue (sort.Property ∷ []) classes names next h = cc
enough_other construct.ObjectHasValue (sort.Property ∷ sort.Individual ∷ []) classes names next h = refl
enough_other construct.ObjectHasValue (sort.Property ∷ sort.Individual ∷ s ∷ wanted) classes names next h = cc
enough_other construct.ObjectHasValue (sort.Property ∷ s ∷ wanted) classes names next h = cc
enough_other construct.ObjectHasValue (s ∷ wanted) classes names next h = cc
enough_other _ wanted classes names next h = refl

module _ (known : WordId → Bool) where
  abbrev pub fits_frame : Frame → Bool
  fits_frame f = list_all (fits_class known) f.classes && (list_all known f.names && has_enough f.construct f.wanted f.classes f.names)

  pub classes_of : (f : Frame) → fits_frame f ≡ true → list_all (fits_class known) f.classes ≡ true
  classes_of f h = and_first (list_all (fits_class known) f.classes) (list_all known f.names && has_enough f.construct f.wanted f.classes f.names) h

  rest_of : (f : Frame) → fits_frame f ≡ true → (list_all known f.names && has_enough f.construct f.wanted f.classes f.names) ≡ true
  rest_of f h = and_second (list_all (fits_class known) f.classes) (list_all known f.names && has_enough f.construct f.wanted f.classes f.names) h

  pub names_of : (f : Frame) → fits_frame f ≡ true → list_all known f.names ≡ true
  names_of f h = and_first (list_all known f.names) (has_enough f.construct f.wanted f.classes f.names) (rest_of f h)

  pub enough_of : (f : Frame) → fits_frame f ≡ true → has_enough f.construct f.wanted f.classes f.names ≡ true
  enough_of f h = and_second (list_all known f.names) (has_enough f.construct f.wanted f.classes f.names) (rest_of f h)

  made : (k : Construct) (wanted : List Sort) (classes : List Concept) (names : List WordId) → list_all (fits_class known) classes ≡ true
      → list_all known names ≡ true → has_enough k wanted classes names ≡ true
      → (list_all (fits_class known) classes && (list_all known names && has_enough k wanted classes names)) ≡ true
  made k wanted classes names c n e =
      and_from (list_all (fits_class known) classes) (list_all known names && has_enough k wanted classes names) c
      (and_from (list_all known names) (has_enough k wanted classes names) n e)

  pub new_fits : (k : Construct) → fits_frame (new_frame k) ≡ true
  new_fits construct.ObjectIntersectionOf = refl
  new_fits construct.ObjectUnionOf = refl
  new_fits construct.ObjectHasValue = refl
  new_fits _ = refl

  pub with_class_fits : (f : Frame) (c : Concept) → fits_class known c ≡ true → next_sort f ≡ Some sort.Class → fits_frame f ≡ true
      → fits_frame (with_class c f) ≡ true
  with_class_fits f c fits next h =
      made f.construct (behind f.wanted) (f.classes ++ c ∷ []) f.names
      (all_append (fits_class known) f.classes (c ∷ []) (classes_of f h) (and_from (fits_class known c) true fits refl)) (names_of f h)
      (enough_class f.construct f.wanted f.classes f.names c next (enough_of f h))

  pub with_name_fits : (f : Frame) (a : WordId) → known a ≡ true → next_sort f ≡ Some sort.Individual → fits_frame f ≡ true
      → fits_frame (with_name a f) ≡ true
  with_name_fits f a is next h =
      made f.construct (behind f.wanted) f.classes (f.names ++ a ∷ []) (classes_of f h)
      (all_append known f.names (a ∷ []) (names_of f h) (and_from (known a) true is refl))
      (enough_name f.construct f.wanted f.classes f.names a next (enough_of f h))

  pub with_role_fits : (f : Frame) (r : Role) → is_unkept (next_sort f) ≡ true → fits_frame f ≡ true → fits_frame (with_role r f) ≡ true
  with_role_fits f r next h =
      made f.construct (behind f.wanted) f.classes f.names (classes_of f h) (names_of f h)
      (enough_other f.construct f.wanted f.classes f.names next (enough_of f h))

  pub with_any_fits : (f : Frame) → is_unkept (next_sort f) ≡ true → fits_frame f ≡ true → fits_frame (with_any f) ≡ true
  with_any_fits f next h =
      made f.construct (behind f.wanted) f.classes f.names (classes_of f h) (names_of f h)
      (enough_other f.construct f.wanted f.classes f.names next (enough_of f h))

  -- the class of a frame in which nothing must come any more
  pub class_fits : (k : Construct) (classes : List Concept) (roles : List Role) (names : List WordId) → list_all (fits_class known) classes ≡ true
      → list_all known names ≡ true → has_enough k [] classes names ≡ true → fits_class known (class_by k classes roles names) ≡ true
  class_fits construct.ObjectIntersectionOf [] roles names c n e = cc
  class_fits construct.ObjectIntersectionOf (a ∷ []) roles names c n e = cc
  class_fits construct.ObjectIntersectionOf (a ∷ b ∷ cs) roles names c n e = intersection_fits known a b cs c
  class_fits construct.ObjectUnionOf [] roles names c n e = cc
  class_fits construct.ObjectUnionOf (a ∷ []) roles names c n e = cc
  class_fits construct.ObjectUnionOf (a ∷ b ∷ cs) roles names c n e = union_fits known a b cs c
  class_fits construct.ObjectComplementOf classes roles names c n e = first_fits known classes c
  class_fits construct.ObjectSomeValuesFrom classes roles names c n e = first_fits known classes c
  class_fits construct.ObjectAllValuesFrom classes roles names c n e = first_fits known classes c
  class_fits construct.ObjectHasValue classes roles [] c n e = cc
  class_fits construct.ObjectHasValue classes roles (a ∷ names) c n e = and_from (known a) true (and_first (known a) (list_all known names) n) refl
  class_fits _ classes roles names c n e = refl
