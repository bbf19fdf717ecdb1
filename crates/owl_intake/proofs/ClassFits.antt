-- Classes and axioms that fit entities: each intersection and union has two members or more, and each name is an individual.
use Rattle.std.proofs.Common.{◌≡◌, ◌&&◌, Bool, true, List, [], ◌∷◌, map, refl, ap, ◌∙◌}
use Rattle.std.specs.List.{list_all}
use Rattle.std.proofs.lemmas.Bool.{and_from}
use Rattle.wiki_base.specs.declared.numbers.WordId.{WordId}
use Rattle.wiki_base.proofs.BoolLaws.{and_first, and_second}
use Rattle.wiki_base.proofs.ListLaws.{all_append}
use Rattle.logic_terms.specs.declared.expressions.Role.{Role}
use Rattle.logic_terms.specs.Concept.{Concept, Everything, ComplementOf, IntersectionOf, UnionOf, SomeValuesFrom, AllValuesFrom, HasValue, concepts_from, Claim, SubPropertyOf, PropertyAssertion, NegativePropertyAssertion}
use Rattle.logic_terms.specs.Concept as claim
use Rattle.logic_terms.specs.Complement.{normal_form, complement, is_normal, is_wide, each_wide}
use Rattle.logic_terms.specs.Plain.{is_plain, is_plain_claim}
use Rattle.logic_terms.proofs.ComplementLemmas.{is_normal-normal_form, is_normal-complement, is_wide-normal_form, is_wide-complement}
use Rattle.absorb.specs.Mentioned.{names_in, names_in_each, names_in_claim}
use Rattle.absorb.proofs.NamedLemmas.{names_in-complement}
use Rattle.owl_reader.specs.declared.kinds.Construct.{Construct}
use Rattle.owl_reader.specs.declared.kinds.Construct.TheVariants as construct
use Rattle.owl_reader.specs.Claims.{below, apart, each_next, closing, round, pairs, sub_class, sub_property, inverses, symmetric, transitive, domain, range, member, related, claims_by, first_class}

-- tests of all, by one
one_more : {X : Type 0} (p : X → Bool) (x : X) (xs : List X) → p x ≡ true → list_all p xs ≡ true → list_all p (x ∷ xs) ≡ true
one_more p x xs h hs = and_from (p x) (list_all p xs) h hs

alone : {X : Type 0} (p : X → Bool) (x : X) → p x ≡ true → list_all p (x ∷ []) ≡ true
alone p x h = one_more p x [] h refl

-- ---- rows of pairs

module _ {X : Type 0} (p : Claim → Bool) (q : X → Bool) (make : X → X → Claim) (step : (x y : X) → q x ≡ true → q y ≡ true → p (make x y) ≡ true) where
  all_with : (x : X) (ys : List X) → q x ≡ true → list_all q ys ≡ true → list_all p (map (make x) ys) ≡ true
  all_with x [] h hs = refl
  all_with x (y ∷ ys) h hs =
      one_more p (make x y) (map (make x) ys) (step x y h (and_first (q y) (list_all q ys) hs)) (all_with x ys h (and_second (q y) (list_all q ys) hs))

  all_pairs : (xs : List X) → list_all q xs ≡ true → list_all p (pairs make xs) ≡ true
  all_pairs [] hs = refl
  all_pairs (x ∷ xs) hs =
      all_append p (map (make x) xs) (pairs make xs) (all_with x xs (and_first (q x) (list_all q xs) hs) (and_second (q x) (list_all q xs) hs))
      (all_pairs xs (and_second (q x) (list_all q xs) hs))

  all_next : (xs : List X) → list_all q xs ≡ true → list_all p (each_next make xs) ≡ true
  all_next [] hs = refl
  all_next (x ∷ []) hs = refl
  all_next (x ∷ y ∷ ys) hs =
      let first = and_first (q x) (list_all q (y ∷ ys)) hs in
      let more = and_second (q x) (list_all q (y ∷ ys)) hs in
      one_more p (make x y) (each_next make (y ∷ ys)) (step x y first (and_first (q y) (list_all q ys) more)) (all_next (y ∷ ys) more)

  all_closing : (first x : X) (ys : List X) → q first ≡ true → q x ≡ true → list_all q ys ≡ true → list_all p (closing make first x ys) ≡ true
  all_closing first x [] h k hs = alone p (make x first) (step x first k h)
  all_closing first x (y ∷ ys) h k hs =
      let next = and_first (q y) (list_all q ys) hs in
      one_more p (make x y) (closing make first y ys) (step x y k next) (all_closing first y ys h next (and_second (q y) (list_all q ys) hs))

  all_round : (xs : List X) → list_all q xs ≡ true → list_all p (round make xs) ≡ true
  all_round [] hs = refl
  all_round (x ∷ xs) hs =
      all_closing x x xs (and_first (q x) (list_all q xs) hs) (and_first (q x) (list_all q xs) hs) (and_second (q x) (list_all q xs) hs)

-- ---- classes and axioms over names that pass a test

module _ (known : WordId → Bool) where
  abbrev pub fits_class : Concept → Bool
  fits_class c = is_wide c && list_all known (names_in c)

  abbrev pub fits_claim : Claim → Bool
  fits_claim stated = is_plain_claim stated && list_all known (names_in_claim stated)

  wide : (c : Concept) → fits_class c ≡ true → is_wide c ≡ true
  wide c h = and_first (is_wide c) (list_all known (names_in c)) h

  named : (c : Concept) → fits_class c ≡ true → list_all known (names_in c) ≡ true
  named c h = and_second (is_wide c) (list_all known (names_in c)) h

  plain_normal : (c : Concept) → fits_class c ≡ true → is_plain (normal_form c) ≡ true
  plain_normal c h = and_from (is_normal (normal_form c)) (is_wide (normal_form c)) (is_normal-normal_form c) (is_wide-normal_form c ∙ wide c h)

  plain_complement : (c : Concept) → fits_class c ≡ true → is_plain (complement c) ≡ true
  plain_complement c h = and_from (is_normal (complement c)) (is_wide (complement c)) (is_normal-complement c) (is_wide-complement c ∙ wide c h)

  named_normal : (c : Concept) → fits_class c ≡ true → list_all known (names_in (normal_form c)) ≡ true
  named_normal c h = ap (list_all known) (names_in-complement (ComplementOf c)) ∙ named c h

  named_complement : (c : Concept) → fits_class c ≡ true → list_all known (names_in (complement c)) ≡ true
  named_complement c h = ap (list_all known) (names_in-complement c) ∙ named c h

  below_fits : (c d : Concept) → fits_class c ≡ true → fits_class d ≡ true → fits_claim (below c d) ≡ true
  below_fits c d h k =
      and_from (is_plain_claim (below c d)) (list_all known (names_in_claim (below c d)))
      (and_from (is_plain (normal_form c)) (is_plain (normal_form d)) (plain_normal c h) (plain_normal d k))
      (all_append known (names_in (normal_form c)) (names_in (normal_form d)) (named_normal c h) (named_normal d k))

  apart_fits : (c d : Concept) → fits_class c ≡ true → fits_class d ≡ true → fits_claim (apart c d) ≡ true
  apart_fits c d h k =
      and_from (is_plain_claim (apart c d)) (list_all known (names_in_claim (apart c d)))
      (and_from (is_plain (normal_form c)) (is_plain (complement d)) (plain_normal c h) (plain_complement d k))
      (all_append known (names_in (normal_form c)) (names_in (complement d)) (named_normal c h) (named_complement d k))

  two_known : (a b : WordId) → known a ≡ true → known b ≡ true → list_all known (a ∷ b ∷ []) ≡ true
  two_known a b h k = one_more known a (b ∷ []) h (alone known b k)

  -- ---- the axioms of each row

  sub_class_fits : (cs : List Concept) → list_all fits_class cs ≡ true → list_all fits_claim (sub_class cs) ≡ true
  sub_class_fits [] h = refl
  sub_class_fits (c ∷ []) h = refl
  sub_class_fits (c ∷ d ∷ []) h =
      let more = and_second (fits_class c) (fits_class d && true) h in
      alone fits_claim (below c d) (below_fits c d (and_first (fits_class c) (fits_class d && true) h) (and_first (fits_class d) true more))
  sub_class_fits (c ∷ d ∷ e ∷ cs) h = refl

  sub_property_fits : (rs : List Role) → list_all fits_claim (sub_property rs) ≡ true
  sub_property_fits [] = refl
  sub_property_fits (r ∷ []) = refl
  sub_property_fits (r ∷ s ∷ []) = refl
  sub_property_fits (r ∷ s ∷ t ∷ rs) = refl

  inverses_fit : (rs : List Role) → list_all fits_claim (inverses rs) ≡ true
  inverses_fit [] = refl
  inverses_fit (r ∷ []) = refl
  inverses_fit (r ∷ s ∷ []) = refl
  inverses_fit (r ∷ s ∷ t ∷ rs) = refl

  symmetric_fits : (rs : List Role) → list_all fits_claim (symmetric rs) ≡ true
  symmetric_fits [] = refl
  symmetric_fits (r ∷ []) = refl
  symmetric_fits (r ∷ s ∷ rs) = refl

  transitive_fits : (rs : List Role) → list_all fits_claim (transitive rs) ≡ true
  transitive_fits [] = refl
  transitive_fits (r ∷ []) = refl
  transitive_fits (r ∷ s ∷ rs) = refl

  domain_fits : (rs : List Role) (cs : List Concept) → list_all fits_class cs ≡ true → list_all fits_claim (domain rs cs) ≡ true
  domain_fits [] cs h = refl
  domain_fits (r ∷ []) [] h = refl
  domain_fits (r ∷ []) (c ∷ []) h =
      alone fits_claim (below (SomeValuesFrom r Everything) c) (below_fits (SomeValuesFrom r Everything) c refl (and_first (fits_class c) true h))
  domain_fits (r ∷ []) (c ∷ d ∷ cs) h = refl
  domain_fits (r ∷ s ∷ rs) cs h = refl

  range_fits : (rs : List Role) (cs : List Concept) → list_all fits_class cs ≡ true → list_all fits_claim (range rs cs) ≡ true
  range_fits [] cs h = refl
  range_fits (r ∷ []) [] h = refl
  range_fits (r ∷ []) (c ∷ []) h =
      alone fits_claim (below Everything (AllValuesFrom r c)) (below_fits Everything (AllValuesFrom r c) refl (and_first (fits_class c) true h))
  range_fits (r ∷ []) (c ∷ d ∷ cs) h = refl
  range_fits (r ∷ s ∷ rs) cs h = refl

  member_fits : (cs : List Concept) (names : List WordId) → list_all fits_class cs ≡ true → list_all known names ≡ true
      → list_all fits_claim (member cs names) ≡ true
  member_fits [] names h k = refl
  member_fits (c ∷ []) [] h k = refl
  member_fits (c ∷ []) (a ∷ []) h k =
      let fits = and_first (fits_class c) true h in
      alone fits_claim (claim.ClassAssertion (normal_form c) a)
      (and_from (is_plain (normal_form c)) (known a && list_all known (names_in (normal_form c))) (plain_normal c fits)
      (and_from (known a) (list_all known (names_in (normal_form c))) (and_first (known a) true k) (named_normal c fits)))
  member_fits (c ∷ []) (a ∷ b ∷ names) h k = refl
  member_fits (c ∷ d ∷ cs) names h k = refl

  related_fits : (make : Role → WordId → WordId → Claim) → ((r : Role) (a b : WordId) → list_all known (a ∷ b ∷ []) ≡ true → fits_claim (make r a b) ≡ true)
      → (rs : List Role) (names : List WordId) → list_all known names ≡ true → list_all fits_claim (related make rs names) ≡ true
  related_fits make fits [] names k = refl
  related_fits make fits (r ∷ []) [] k = refl
  related_fits make fits (r ∷ []) (a ∷ []) k = refl
  related_fits make fits (r ∷ []) (a ∷ b ∷ []) k = alone fits_claim (make r a b) (fits r a b k)
  related_fits make fits (r ∷ []) (a ∷ b ∷ c ∷ names) k = refl
  related_fits make fits (r ∷ s ∷ rs) names k = refl

  all_roles : (rs : List Role) → list_all (λ (r : Role). true) rs ≡ true
  all_roles [] = refl
  all_roles (r ∷ rs) = all_roles rs

  pub claims_fit : (k : Construct) (cs : List Concept) (rs : List Role) (names : List WordId) → list_all fits_class cs ≡ true
      → list_all known names ≡ true → list_all fits_claim (claims_by k cs rs names) ≡ true
  claims_fit construct.SubClassOf cs rs names h n = sub_class_fits cs h
  claims_fit construct.EquivalentClasses cs rs names h n = all_round fits_claim fits_class below below_fits cs h
  claims_fit construct.DisjointClasses cs rs names h n = all_pairs fits_claim fits_class apart apart_fits cs h
  claims_fit construct.SubObjectPropertyOf cs rs names h n = sub_property_fits rs
  claims_fit construct.EquivalentObjectProperties cs rs names h n =
      all_round fits_claim (λ (r : Role). true) SubPropertyOf (λ r s x y. refl) rs (all_roles rs)
  claims_fit construct.ObjectPropertyDomain cs rs names h n = domain_fits rs cs h
  claims_fit construct.ObjectPropertyRange cs rs names h n = range_fits rs cs h
  claims_fit construct.InverseObjectProperties cs rs names h n = inverses_fit rs
  claims_fit construct.SymmetricObjectProperty cs rs names h n = symmetric_fits rs
  claims_fit construct.TransitiveObjectProperty cs rs names h n = transitive_fits rs
  claims_fit construct.SameIndividual cs rs names h n = all_next fits_claim known claim.SameIndividual (λ a b x y. two_known a b x y) names n
  claims_fit construct.DifferentIndividuals cs rs names h n = all_pairs fits_claim known claim.DifferentIndividuals (λ a b x y. two_known a b x y) names n
  claims_fit construct.ClassAssertion cs rs names h n = member_fits cs names h n
  claims_fit construct.ObjectPropertyAssertion cs rs names h n = related_fits PropertyAssertion (λ r a b x. x) rs names n
  claims_fit construct.NegativeObjectPropertyAssertion cs rs names h n = related_fits NegativePropertyAssertion (λ r a b x. x) rs names n
  claims_fit _ cs rs names h n = refl

  -- ---- the class of each row

  members_wide : (cs : List Concept) → list_all fits_class cs ≡ true → each_wide (concepts_from cs) ≡ true
  members_wide [] h = refl
  members_wide (c ∷ cs) h =
      and_from (is_wide c) (each_wide (concepts_from cs)) (wide c (and_first (fits_class c) (list_all fits_class cs) h))
      (members_wide cs (and_second (fits_class c) (list_all fits_class cs) h))

  members_named : (cs : List Concept) → list_all fits_class cs ≡ true → list_all known (names_in_each (concepts_from cs)) ≡ true
  members_named [] h = refl
  members_named (c ∷ cs) h =
      all_append known (names_in c) (names_in_each (concepts_from cs)) (named c (and_first (fits_class c) (list_all fits_class cs) h))
      (members_named cs (and_second (fits_class c) (list_all fits_class cs) h))

  pub intersection_fits : (c d : Concept) (cs : List Concept) → list_all fits_class (c ∷ d ∷ cs) ≡ true
      → fits_class (IntersectionOf (concepts_from (c ∷ d ∷ cs))) ≡ true
  intersection_fits c d cs h =
      and_from (each_wide (concepts_from (c ∷ d ∷ cs))) (list_all known (names_in_each (concepts_from (c ∷ d ∷ cs))))
      (members_wide (c ∷ d ∷ cs) h) (members_named (c ∷ d ∷ cs) h)

  pub union_fits : (c d : Concept) (cs : List Concept) → list_all fits_class (c ∷ d ∷ cs) ≡ true
      → fits_class (UnionOf (concepts_from (c ∷ d ∷ cs))) ≡ true
  union_fits c d cs h = intersection_fits c d cs h

  pub first_fits : (cs : List Concept) → list_all fits_class cs ≡ true → fits_class (first_class cs) ≡ true
  first_fits [] h = refl
  first_fits (c ∷ cs) h = and_first (fits_class c) (list_all fits_class cs) h
