-- What the normal form of a class, and that of its complement, mean and keep.
use Rattle.std.proofs.Common.{◌≡◌, ℕ, zero, suc, ◌&&◌, ◌||◌, Bool, true, false, List, [], ◌∷◌, map, refl, sym, ap, ◌∙◌, Decides}
use Rattle.std.specs.Prelude.{not, ◌↔◌}
use Rattle.std.proofs.lemmas.Bool.Decides.{Decides-at, Decides-not}
use Rattle.std.proofs.Math.Bool.{not-not}
use Rattle.std.proofs.lemmas.Bool.{and_from}
use Rattle.logic_terms.specs.Concept.{Concept, Concepts, Everything, Atomic, ComplementOf, IntersectionOf, UnionOf, SomeValuesFrom, AllValuesFrom, HasValue, no_concept, also_concept, concepts_from}
use Rattle.logic_terms.specs.Interpretation.{Interpretation, relates}
use Rattle.logic_terms.specs.Meaning.{some_below, each_below, implies, is_in, is_in_each, is_in_some}
use Rattle.logic_terms.specs.Reading.{IsIn}
use Rattle.logic_terms.proofs.MeaningLemmas.{is_in-Decides}
use Rattle.logic_terms.specs.Complement.{normal_form, complement, normal_forms, complements, is_normal, each_normal, has_two, is_wide, each_wide}

pub not_and : (a b : Bool) → not (a && b) ≡ (not a || not b)
not_and true b = refl
not_and false b = refl

pub not_or : (a b : Bool) → not (a || b) ≡ (not a && not b)
not_or true b = refl
not_or false b = refl

not_implies : (a b : Bool) → not (implies a b) ≡ (a && not b)
not_implies true b = refl
not_implies false b = refl

implies_not : (a b : Bool) → implies a (not b) ≡ not (a && b)
implies_not true b = refl
implies_not false b = refl

-- no number passes a test where each fails it, and not each passes it where some fails it
pub each_below-not : (n : ℕ) (test : ℕ → Bool) → each_below n (λ y. not (test y)) ≡ not (some_below n test)
each_below-not zero test = refl
each_below-not (suc n) test =
    ap (λ b. not (test n) && b) (each_below-not n test) ∙ sym (not_or (test n) (some_below n test))

pub some_below-not : (n : ℕ) (test : ℕ → Bool) → some_below n (λ y. not (test y)) ≡ not (each_below n test)
some_below-not zero test = refl
some_below-not (suc n) test =
    ap (λ b. not (test n) || b) (some_below-not n test) ∙ sym (not_and (test n) (each_below n test))

-- an element is in the normal form of a class where it is in the class, and in that of the complement where it is not
mutual
  pub is_in-normal_form : (i : Interpretation) (c : Concept) (x : ℕ) → is_in i (normal_form c) x ≡ is_in i c x
  is_in-normal_form i Everything x = refl
  is_in-normal_form i (Atomic word) x = refl
  is_in-normal_form i (ComplementOf c) x = is_in-complement i c x
  is_in-normal_form i (IntersectionOf cs) x = is_in_each-normal_forms i cs x
  is_in-normal_form i (UnionOf cs) x = is_in_some-normal_forms i cs x
  is_in-normal_form i (SomeValuesFrom role c) x =
      ap (some_below i.size) (λ j y. relates i role x y && is_in-normal_form i c y j)
  is_in-normal_form i (AllValuesFrom role c) x =
      ap (each_below i.size) (λ j y. implies (relates i role x y) (is_in-normal_form i c y j))
  is_in-normal_form i (HasValue role name) x = refl

  pub is_in-complement : (i : Interpretation) (c : Concept) (x : ℕ) → is_in i (complement c) x ≡ not (is_in i c x)
  is_in-complement i Everything x = refl
  is_in-complement i (Atomic word) x = refl
  is_in-complement i (ComplementOf c) x = is_in-normal_form i c x ∙ sym (not-not (is_in i c x))
  is_in-complement i (IntersectionOf cs) x = is_in_some-complements i cs x
  is_in-complement i (UnionOf cs) x = is_in_each-complements i cs x
  is_in-complement i (SomeValuesFrom role c) x =
      ap (each_below i.size) (λ j y. (ap (implies (relates i role x y)) (is_in-complement i c y) ∙ implies_not (relates i role x y) (is_in i c y)) j)
      ∙ each_below-not i.size (λ y. relates i role x y && is_in i c y)
  is_in-complement i (AllValuesFrom role c) x =
      ap (some_below i.size) (λ j y. (ap (λ b. relates i role x y && b) (is_in-complement i c y) ∙ sym (not_implies (relates i role x y) (is_in i c y))) j)
      ∙ some_below-not i.size (λ y. implies (relates i role x y) (is_in i c y))
  is_in-complement i (HasValue role name) x = refl

  pub is_in_each-normal_forms : (i : Interpretation) (cs : Concepts) (x : ℕ) → is_in_each i (normal_forms cs) x ≡ is_in_each i cs x
  is_in_each-normal_forms i no_concept x = refl
  is_in_each-normal_forms i (also_concept c cs) x =
      ap (λ b. b && is_in_each i (normal_forms cs) x) (is_in-normal_form i c x)
      ∙ ap (λ b. is_in i c x && b) (is_in_each-normal_forms i cs x)

  pub is_in_some-normal_forms : (i : Interpretation) (cs : Concepts) (x : ℕ) → is_in_some i (normal_forms cs) x ≡ is_in_some i cs x
  is_in_some-normal_forms i no_concept x = refl
  is_in_some-normal_forms i (also_concept c cs) x =
      ap (λ b. b || is_in_some i (normal_forms cs) x) (is_in-normal_form i c x)
      ∙ ap (λ b. is_in i c x || b) (is_in_some-normal_forms i cs x)

  pub is_in_each-complements : (i : Interpretation) (cs : Concepts) (x : ℕ) → is_in_each i (complements cs) x ≡ not (is_in_some i cs x)
  is_in_each-complements i no_concept x = refl
  is_in_each-complements i (also_concept c cs) x =
      ap (λ b. b && is_in_each i (complements cs) x) (is_in-complement i c x)
      ∙ ap (λ b. not (is_in i c x) && b) (is_in_each-complements i cs x)
      ∙ sym (not_or (is_in i c x) (is_in_some i cs x))

  pub is_in_some-complements : (i : Interpretation) (cs : Concepts) (x : ℕ) → is_in_some i (complements cs) x ≡ not (is_in_each i cs x)
  is_in_some-complements i no_concept x = refl
  is_in_some-complements i (also_concept c cs) x =
      ap (λ b. b || is_in_some i (complements cs) x) (is_in-complement i c x)
      ∙ ap (λ b. not (is_in i c x) || b) (is_in_some-complements i cs x)
      ∙ sym (not_and (is_in i c x) (is_in_each i cs x))

-- and_from are in normal form
mutual
  pub is_normal-normal_form : (c : Concept) → is_normal (normal_form c) ≡ true
  is_normal-normal_form Everything = refl
  is_normal-normal_form (Atomic word) = refl
  is_normal-normal_form (ComplementOf c) = is_normal-complement c
  is_normal-normal_form (IntersectionOf cs) = each_normal-normal_forms cs
  is_normal-normal_form (UnionOf cs) = each_normal-normal_forms cs
  is_normal-normal_form (SomeValuesFrom role c) = is_normal-normal_form c
  is_normal-normal_form (AllValuesFrom role c) = is_normal-normal_form c
  is_normal-normal_form (HasValue role name) = refl

  pub is_normal-complement : (c : Concept) → is_normal (complement c) ≡ true
  is_normal-complement Everything = refl
  is_normal-complement (Atomic word) = refl
  is_normal-complement (ComplementOf c) = is_normal-normal_form c
  is_normal-complement (IntersectionOf cs) = each_normal-complements cs
  is_normal-complement (UnionOf cs) = each_normal-complements cs
  is_normal-complement (SomeValuesFrom role c) = is_normal-complement c
  is_normal-complement (AllValuesFrom role c) = is_normal-complement c
  is_normal-complement (HasValue role name) = refl

  pub each_normal-normal_forms : (cs : Concepts) → each_normal (normal_forms cs) ≡ true
  each_normal-normal_forms no_concept = refl
  each_normal-normal_forms (also_concept c cs) =
      and_from (is_normal (normal_form c)) (each_normal (normal_forms cs)) (is_normal-normal_form c) (each_normal-normal_forms cs)

  pub each_normal-complements : (cs : Concepts) → each_normal (complements cs) ≡ true
  each_normal-complements no_concept = refl
  each_normal-complements (also_concept c cs) =
      and_from (is_normal (complement c)) (each_normal (complements cs)) (is_normal-complement c) (each_normal-complements cs)

has_two-normal_forms : (cs : Concepts) → has_two (normal_forms cs) ≡ has_two cs
has_two-normal_forms no_concept = refl
has_two-normal_forms (also_concept c no_concept) = refl
has_two-normal_forms (also_concept c (also_concept d cs)) = refl

has_two-complements : (cs : Concepts) → has_two (complements cs) ≡ has_two cs
has_two-complements no_concept = refl
has_two-complements (also_concept c no_concept) = refl
has_two-complements (also_concept c (also_concept d cs)) = refl

wide_both : (a b c d : Bool) → a ≡ c → b ≡ d → (a && b) ≡ (c && d)
wide_both a b c d p q = λ j. p j && q j

-- and_from have members as before
mutual
  pub is_wide-normal_form : (c : Concept) → is_wide (normal_form c) ≡ is_wide c
  is_wide-normal_form Everything = refl
  is_wide-normal_form (Atomic word) = refl
  is_wide-normal_form (ComplementOf c) = is_wide-complement c
  is_wide-normal_form (IntersectionOf cs) =
      wide_both (has_two (normal_forms cs)) (each_wide (normal_forms cs)) (has_two cs) (each_wide cs) (has_two-normal_forms cs) (each_wide-normal_forms cs)
  is_wide-normal_form (UnionOf cs) =
      wide_both (has_two (normal_forms cs)) (each_wide (normal_forms cs)) (has_two cs) (each_wide cs) (has_two-normal_forms cs) (each_wide-normal_forms cs)
  is_wide-normal_form (SomeValuesFrom role c) = is_wide-normal_form c
  is_wide-normal_form (AllValuesFrom role c) = is_wide-normal_form c
  is_wide-normal_form (HasValue role name) = refl

  pub is_wide-complement : (c : Concept) → is_wide (complement c) ≡ is_wide c
  is_wide-complement Everything = refl
  is_wide-complement (Atomic word) = refl
  is_wide-complement (ComplementOf c) = is_wide-normal_form c
  is_wide-complement (IntersectionOf cs) =
      wide_both (has_two (complements cs)) (each_wide (complements cs)) (has_two cs) (each_wide cs) (has_two-complements cs) (each_wide-complements cs)
  is_wide-complement (UnionOf cs) =
      wide_both (has_two (complements cs)) (each_wide (complements cs)) (has_two cs) (each_wide cs) (has_two-complements cs) (each_wide-complements cs)
  is_wide-complement (SomeValuesFrom role c) = is_wide-complement c
  is_wide-complement (AllValuesFrom role c) = is_wide-complement c
  is_wide-complement (HasValue role name) = refl

  pub each_wide-normal_forms : (cs : Concepts) → each_wide (normal_forms cs) ≡ each_wide cs
  each_wide-normal_forms no_concept = refl
  each_wide-normal_forms (also_concept c cs) =
      wide_both (is_wide (normal_form c)) (each_wide (normal_forms cs)) (is_wide c) (each_wide cs) (is_wide-normal_form c) (each_wide-normal_forms cs)

  pub each_wide-complements : (cs : Concepts) → each_wide (complements cs) ≡ each_wide cs
  each_wide-complements no_concept = refl
  each_wide-complements (also_concept c cs) =
      wide_both (is_wide (complement c)) (each_wide (complements cs)) (is_wide c) (each_wide cs) (is_wide-complement c) (each_wide-complements cs)

-- the members' forms, one by one
pub normal_forms_from : (cs : List Concept) → normal_forms (concepts_from cs) ≡ concepts_from (map normal_form cs)
normal_forms_from [] = refl
normal_forms_from (c ∷ cs) = ap (also_concept (normal_form c)) (normal_forms_from cs)

pub complements_from : (cs : List Concept) → complements (concepts_from cs) ≡ concepts_from (map complement cs)
complements_from [] = refl
complements_from (c ∷ cs) = ap (also_concept (complement c)) (complements_from cs)

-- two facts that one test decides
same_fact : (P Q : Type 0) (r : Bool) → Decides r P → Decides r Q → P ↔ Q
same_fact P Q r p q = (λ x. q.0 (p.1 x), λ y. p.0 (q.1 y))

-- the same as a fact, of whatever is the complement's form
pub IsIn-complement : (i : Interpretation) (c d : Concept) (x : ℕ) → d ≡ complement c → IsIn i d x ↔ ¬ IsIn i c x
IsIn-complement i c d x e =
    same_fact (IsIn i d x) (¬ IsIn i c x) (is_in i d x) (is_in-Decides i d x)
    (Decides-at (is_in i d x) (not (is_in i c x)) (ap (λ k. is_in i k x) e ∙ is_in-complement i c x) (Decides-not (is_in i c x) (is_in-Decides i c x)))
