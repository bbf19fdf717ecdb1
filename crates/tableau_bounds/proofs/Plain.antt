-- Plain knowledge: each union among its class occurrences has a member.
use Rattle.std.proofs.Common.{◌≡◌, ◌<◌, ◌&&◌, true, List, [], ◌∷◌, map, length, Some, refl, sym, ◌∙◌, subst, inl, inr, arith}
use Rattle.std.specs.List.{list_all, flat_map}
use Rattle.std.proofs.lemmas.Bool.{and_parts, and_from, or_cases}
use Rattle.std.proofs.lemmas.List.Folds.{list_all-append, list_all-map}
use Rattle.logic_terms.specs.declared.expressions.Role.{Role}
use Rattle.logic_terms.specs.Complement.{is_normal, is_wide, each_wide, has_two}
use Rattle.logic_terms.specs.Concept.{Concept, Concepts, Everything, Atomic, ComplementOf, IntersectionOf, UnionOf, SomeValuesFrom, AllValuesFrom, HasValue, no_concept, also_concept}
use Rattle.logic_terms.specs.Parts.{members_in, union_part}
use Rattle.logic_terms.specs.Plain.{is_plain, is_plain_theory}
use Rattle.logic_terms.specs.Same.{same_concept, has_concept}
use Rattle.logic_terms.specs.Theory.{Theory}
use Rattle.logic_terms.proofs.SameLemmas.{same_concept-equal}
use Rattle.tableau_rules.specs.Carrying.{along, both_ways}
use Rattle.tableau_bounds.specs.Enough.{occurrences, member_occurrences, all_occurrences, given_classes, own_occurrences, class_occurrences}
use Rattle.tableau_bounds.proofs.Parts.{in_one, moved, moved_found}
use Rattle.tableau_bounds.proofs.Stepping.{UnionsHaveMembers}

top : (d : Concept) (rest : List Concept) → is_wide d ≡ true → ((c : Concept) → has_concept rest c ≡ true → is_wide c ≡ true) → (c : Concept)
    → has_concept (d ∷ rest) c ≡ true → is_wide c ≡ true
top d rest wide inside c h = elim (or_cases (same_concept d c) (has_concept rest c) h) [
  | inl same ↦ subst (λ z. is_wide z ≡ true) (same_concept-equal d c same) wide
  | inr later ↦ inside c later
]

leaf : (c : Concept) → has_concept [] c ≡ true → is_wide c ≡ true
leaf c h = cc

-- the parts of a class with two members in each intersection and union are such classes
mutual
  wide_parts : (d : Concept) → is_wide d ≡ true → (c : Concept) → has_concept (occurrences d) c ≡ true → is_wide c ≡ true
  wide_parts Everything wide c h = top Everything [] wide leaf c h
  wide_parts (Atomic word) wide c h = top (Atomic word) [] wide leaf c h
  wide_parts (ComplementOf d) wide c h = top (ComplementOf d) (occurrences d) wide (wide_parts d wide) c h
  wide_parts (IntersectionOf ds) wide c h =
      top (IntersectionOf ds) (member_occurrences ds) wide (wide_members ds (and_parts (has_two ds) (each_wide ds) wide).1) c h
  wide_parts (UnionOf ds) wide c h = top (UnionOf ds) (member_occurrences ds) wide (wide_members ds (and_parts (has_two ds) (each_wide ds) wide).1) c h
  wide_parts (SomeValuesFrom role d) wide c h = top (SomeValuesFrom role d) (occurrences d) wide (wide_parts d wide) c h
  wide_parts (AllValuesFrom role d) wide c h = top (AllValuesFrom role d) (occurrences d) wide (wide_parts d wide) c h
  wide_parts (HasValue role name) wide c h = top (HasValue role name) [] wide leaf c h

  wide_members : (ds : Concepts) → each_wide ds ≡ true → (c : Concept) → has_concept (member_occurrences ds) c ≡ true → is_wide c ≡ true
  wide_members no_concept wide c h = leaf c h
  wide_members (also_concept d ds) wide c h =
      let parts = and_parts (is_wide d) (each_wide ds) wide in
      elim (in_one (occurrences d) (member_occurrences ds) c h) [
        | inl one ↦ wide_parts d parts.0 c one
        | inr two ↦ wide_members ds parts.1 c two
      ]

wide_all : (ds : List Concept) → list_all is_plain ds ≡ true → (c : Concept) → has_concept (all_occurrences ds) c ≡ true → is_wide c ≡ true
wide_all [] plain c h = leaf c h
wide_all (d ∷ ds) plain c h =
    let parts = and_parts (is_plain d) (list_all is_plain ds) plain in
    elim (in_one (occurrences d) (all_occurrences ds) c h) [
      | inl one ↦ wide_parts d (and_parts (is_normal d) (is_wide d) parts.0).1 c one
      | inr two ↦ wide_all ds parts.1 c two
    ]

given_plain : (k : Theory) → is_plain_theory k ≡ true → list_all is_plain (given_classes k) ≡ true
given_plain k plain =
    let one = and_parts (list_all (λ e. is_plain e.1) k.assertions) (list_all (λ e. is_plain e.1) k.unfoldings && list_all is_plain k.general) plain in
    let two = and_parts (list_all (λ e. is_plain e.1) k.unfoldings) (list_all is_plain k.general) one.1 in
    let unfolded : list_all is_plain (map (λ e. e.1) k.unfoldings) ≡ true = list_all-map is_plain (λ e. e.1) k.unfoldings ∙ two.0 in
    let asserted : list_all is_plain (map (λ e. e.1) k.assertions) ≡ true = list_all-map is_plain (λ e. e.1) k.assertions ∙ one.0 in
    list_all-append is_plain (map (λ e. e.1) k.assertions) _
    ∙ and_from (list_all is_plain (map (λ e. e.1) k.assertions)) _ asserted
    (list_all-append is_plain (map (λ e. e.1) k.unfoldings) k.general
    ∙ and_from (list_all is_plain (map (λ e. e.1) k.unfoldings)) (list_all is_plain k.general) unfolded two.1)

has_member : (c : Concept) (cs : List Concept) → is_wide c ≡ true → union_part c ≡ Some cs → 0 < length cs
has_member (UnionOf no_concept) cs wide part = cc
has_member (UnionOf (also_concept d ds)) cs wide part = subst (λ l. 0 < length l) (one (d ∷ members_in ds) cs part) (omega arith)
  where
    one : (a b : List Concept) → Some a ≡ Some b → a ≡ b
    one a b e = cc
has_member _ cs wide part = cc

-- another role in its place leaves a class's intersections and unions as they are
wide_along : (t : Role) (d : Concept) → is_wide (along t d) ≡ is_wide d
wide_along t (ComplementOf d) = wide_along t d
wide_along t (AllValuesFrom role d) = refl
wide_along t (HasValue role name) = refl
wide_along t _ = refl

wide_occurrence : (k : Theory) → is_plain_theory k ≡ true → (c : Concept) → has_concept (class_occurrences k) c ≡ true → is_wide c ≡ true
wide_occurrence k plain c h = elim (in_one (own_occurrences k) (moved (own_occurrences k) (flat_map both_ways k.transitive)) c h) [
  | inl own ↦ wide_all (given_classes k) (given_plain k plain) c own
  | inr other ↦
      let found = moved_found (own_occurrences k) (flat_map both_ways k.transitive) c other in
      subst (λ z. is_wide z ≡ true) (sym found.4) (wide_along found.0 found.1 ∙ wide_all (given_classes k) (given_plain k plain) found.1 found.3)
]

pub unions_have_members : (k : Theory) → is_plain_theory k ≡ true → UnionsHaveMembers k
unions_have_members k plain c cs h part = has_member c cs (wide_occurrence k plain c h) part
