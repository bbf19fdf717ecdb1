-- An axiom is true in both of two interpretations or in neither, if they give its words the same.
use Rattle.std.proofs.Common.{◌≡◌, ℕ, get_or, ◌==◌, ◌&&◌, ◌||◌, Bool, true, List, [], ◌∷◌, refl, sym, ap, ◌∙◌}
use Rattle.std.specs.Prelude.{not, if◌then◌else◌}
use Rattle.std.specs.List.{list_any, list_all}
use Rattle.std.proofs.lemmas.Bool.{and_parts, not-true}
use Rattle.wiki_base.proofs.ListLaws.{all_at}
use Rattle.wiki_base.specs.declared.numbers.WordId.{WordId}
use Rattle.logic_terms.specs.declared.expressions.Role.{Role}
use Rattle.logic_terms.specs.declared.expressions.Class.{Class}
use Rattle.logic_terms.specs.declared.expressions.Classes.{Classes}
use Rattle.logic_terms.specs.declared.expressions.Class.TheVariants as class
use Rattle.logic_terms.specs.Shown.{concept_of, concepts_of}
use Rattle.logic_terms.specs.Concept.{Concept, Concepts, Everything, Atomic, ComplementOf, IntersectionOf, UnionOf, SomeValuesFrom, AllValuesFrom, HasValue, no_concept, also_concept, concepts_from, Claim, SubClassOf, SubPropertyOf, ClassAssertion, PropertyAssertion, NegativePropertyAssertion, SameIndividual, DifferentIndividuals, TransitiveProperty}
use Rattle.logic_terms.specs.Interpretation.{Interpretation, element_of, elements_of, pairs_of, relates}
use Rattle.logic_terms.specs.Meaning.{some_below, each_below, implies, is_in, is_in_each, is_in_some, holds, all_hold}
use Rattle.logic_terms.proofs.ShownLemmas.{concept_of-And, concept_of-Or}
use Rattle.owl_eval.specs.Changes.{is_listed, DifferOnlyAt}
use Rattle.owl_eval.specs.Avoiding.{is_other, avoids, each_avoids, claim_avoids, HoldBeside}

-- what is asked of each class of a list is asked of the members
each_avoided : (ns : List ℕ) (cs : List Concept) → list_all (avoids ns) cs ≡ each_avoids ns (concepts_from cs)
each_avoided ns [] = refl
each_avoided ns (c ∷ cs) = ap (λ b. avoids ns c && b) (each_avoided ns cs)

module _ (ns : List ℕ) (whole : Class) (members : Classes) (r : Bool) (each : r ≡ list_all (avoids ns) (concepts_of members)) where
  pub avoids_and : whole ≡ class.And members → r ≡ avoids ns (concept_of whole)
  avoids_and is =
      each
      ∙ (each_avoided ns (concepts_of members)
      ∙ sym (ap (λ w. avoids ns (concept_of w)) is ∙ ap (avoids ns) (concept_of-And members)))

  pub avoids_or : whole ≡ class.Or members → r ≡ avoids ns (concept_of whole)
  avoids_or is =
      each
      ∙ (each_avoided ns (concepts_of members)
      ∙ sym (ap (λ w. avoids ns (concept_of w)) is ∙ ap (avoids ns) (concept_of-Or members)))

module _ (ns : List ℕ) (i j : Interpretation) (differ : DifferOnlyAt ns i j) where
  name_kept : (w : WordId) → is_other ns w ≡ true → element_of i w ≡ element_of j w
  name_kept w h = differ.names w (not-true (is_listed ns w) h)

  class_kept : (w : WordId) → is_other ns w ≡ true → elements_of i w ≡ elements_of j w
  class_kept w h = differ.classes w (not-true (is_listed ns w) h)

  relation_kept : (w : WordId) → is_other ns w ≡ true → pairs_of i w ≡ pairs_of j w
  relation_kept w h = differ.relations w (not-true (is_listed ns w) h)

  role_kept : (r : Role) → is_other ns r.id ≡ true → (x y : ℕ) → relates i r x y ≡ relates j r x y
  role_kept r h x y =
      ap (λ ps. if r.inverted then list_any (λ p. (p.0 == y) && (p.1 == x)) ps else list_any (λ p. (p.0 == x) && (p.1 == y)) ps) (relation_kept r.id h)

  mutual
    is_in-kept : (c : Concept) → avoids ns c ≡ true → (x : ℕ) → is_in i c x ≡ is_in j c x
    is_in-kept Everything h x = refl
    is_in-kept (Atomic word) h x = ap (list_any (λ y. y == x)) (class_kept word h)
    is_in-kept (ComplementOf c) h x = ap not (is_in-kept c h x)
    is_in-kept (IntersectionOf cs) h x = is_in_each-kept cs h x
    is_in-kept (UnionOf cs) h x = is_in_some-kept cs h x
    is_in-kept (SomeValuesFrom role c) h x =
        let p = and_parts (is_other ns role.id) (avoids ns c) h in
        ap (λ n. some_below n (λ y. relates i role x y && is_in i c y)) differ.size
        ∙ ap (some_below j.size) (λ t y. role_kept role p.0 x y t && is_in-kept c p.1 y t)
    is_in-kept (AllValuesFrom role c) h x =
        let p = and_parts (is_other ns role.id) (avoids ns c) h in
        ap (λ n. each_below n (λ y. implies (relates i role x y) (is_in i c y))) differ.size
        ∙ ap (each_below j.size) (λ t y. implies (role_kept role p.0 x y t) (is_in-kept c p.1 y t))
    is_in-kept (HasValue role name) h x =
        let p = and_parts (is_other ns role.id) (is_other ns name) h in
        role_kept role p.0 x (element_of i name) ∙ ap (relates j role x) (name_kept name p.1)

    is_in_each-kept : (cs : Concepts) → each_avoids ns cs ≡ true → (x : ℕ) → is_in_each i cs x ≡ is_in_each j cs x
    is_in_each-kept no_concept h x = refl
    is_in_each-kept (also_concept c cs) h x =
        let p = and_parts (avoids ns c) (each_avoids ns cs) h in
        λ t. is_in-kept c p.0 x t && is_in_each-kept cs p.1 x t

    is_in_some-kept : (cs : Concepts) → each_avoids ns cs ≡ true → (x : ℕ) → is_in_some i cs x ≡ is_in_some j cs x
    is_in_some-kept no_concept h x = refl
    is_in_some-kept (also_concept c cs) h x =
        let p = and_parts (avoids ns c) (each_avoids ns cs) h in
        ap (λ b. b || is_in_some i cs x) (is_in-kept c p.0 x) ∙ ap (λ b. is_in j c x || b) (is_in_some-kept cs p.1 x)

  related_kept : (r : Role) (from to : WordId) → (is_other ns r.id && (is_other ns from && is_other ns to)) ≡ true
      → relates i r (element_of i from) (element_of i to) ≡ relates j r (element_of j from) (element_of j to)
  related_kept r from to h =
      let p = and_parts (is_other ns r.id) (is_other ns from && is_other ns to) h in
      let q = and_parts (is_other ns from) (is_other ns to) p.1 in
      role_kept r p.0 (element_of i from) (element_of i to)
      ∙ (ap (λ x. relates j r x (element_of i to)) (name_kept from q.0)
      ∙ ap (relates j r (element_of j from)) (name_kept to q.1))

  equal_kept : (one other : WordId) → (is_other ns one && is_other ns other) ≡ true
      → (element_of i one == element_of i other) ≡ (element_of j one == element_of j other)
  equal_kept one other h =
      let p = and_parts (is_other ns one) (is_other ns other) h in
      ap (λ x. x == element_of i other) (name_kept one p.0) ∙ ap (λ y. element_of j one == y) (name_kept other p.1)

  pub holds-kept : (claim : Claim) → claim_avoids ns claim ≡ true → holds i claim ≡ holds j claim
  holds-kept (SubClassOf c d) h =
      let p = and_parts (avoids ns c) (avoids ns d) h in
      ap (λ n. each_below n (λ x. implies (is_in i c x) (is_in i d x))) differ.size
      ∙ ap (each_below j.size) (λ t x. implies (is_in-kept c p.0 x t) (is_in-kept d p.1 x t))
  holds-kept (SubPropertyOf r s) h =
      let p = and_parts (is_other ns r.id) (is_other ns s.id) h in
      ap (λ n. each_below n (λ x. each_below n (λ y. implies (relates i r x y) (relates i s x y)))) differ.size
      ∙ ap (each_below j.size) (λ t x. each_below j.size (λ y. implies (role_kept r p.0 x y t) (role_kept s p.1 x y t)))
  holds-kept (ClassAssertion c name) h =
      let p = and_parts (avoids ns c) (is_other ns name) h in
      is_in-kept c p.0 (element_of i name) ∙ ap (is_in j c) (name_kept name p.1)
  holds-kept (PropertyAssertion r from to) h = related_kept r from to h
  holds-kept (NegativePropertyAssertion r from to) h = ap not (related_kept r from to h)
  holds-kept (SameIndividual one other) h = equal_kept one other h
  holds-kept (DifferentIndividuals one other) h = ap not (equal_kept one other h)
  holds-kept (TransitiveProperty word) h =
      ap (λ ps. list_all (λ p. list_all (λ q. implies (q.0 == p.1) (list_any (λ r. (r.0 == p.0) && (r.1 == q.1)) ps)) ps) ps) (relation_kept word h)

  -- what is true in the one is true in the other, if none of the words is in it
  pub hold_beside : (claims : List Claim) → all_hold i claims ≡ true → HoldBeside ns j claims
  hold_beside claims all k d within without = sym (holds-kept (get_or claims k d) without) ∙ all_at (holds i) claims k d all within
