-- The tests of `Meaning` decide the facts of `Reading`.
use Rattle.std.proofs.Common.{◌≡◌, ℕ, ◌<◌, ◌==◌, ◌&&◌, Bool, true, false, List, get_or, All, Contains, MatchBool, refl, ap, subst, Decides}
use Rattle.std.specs.Prelude.{if◌then◌else◌}
use Rattle.std.specs.List.{list_any, list_all}
use Rattle.std.proofs.lemmas.Bool.Decides.{Decides-eqb, Decides-like, Decides-not, Decides-and, Decides-or, Decides-by_and, Decides-by_or, Decides-below_and, Decides-below_or}
use Rattle.std.proofs.lemmas.List.Elements.{All-contains, Contains-get_or, Decides-contains}
use Rattle.logic_terms.specs.declared.expressions.Role.{Role}
use Rattle.logic_terms.specs.Concept.{Concept, Concepts, Everything, Atomic, ComplementOf, IntersectionOf, UnionOf, SomeValuesFrom, AllValuesFrom, HasValue, no_concept, also_concept, Claim, SubClassOf, SubPropertyOf, ClassAssertion, PropertyAssertion, NegativePropertyAssertion, SameIndividual, DifferentIndividuals, TransitiveProperty}
use Rattle.logic_terms.specs.Interpretation.{Interpretation, element_of, elements_of, pairs_of, relates, Relates}
use Rattle.logic_terms.specs.Meaning.{some_below, each_below, implies, is_in, is_in_each, is_in_some, holds, all_hold}
use Rattle.logic_terms.specs.Reading.{IsIn, IsInEach, IsInSome, Holds, IsModel}

pub list_any-Contains : (xs : List ℕ) (x : ℕ) → Decides (list_any (λ y. y == x) xs) (Contains xs x)
list_any-Contains xs x =
    Decides-contains xs x (list_any (λ y. y == x) xs)
    (Decides-by_or (λ y. y == x) (λ y. y ≡ x) (list_any (λ y. y == x)) (λ y. Decides-eqb y x) refl (λ _ _. refl) xs)

pair_eq : (p : ℕ × ℕ) (x y : ℕ) → Decides ((p.0 == x) && (p.1 == y)) (p ≡ (x, y))
pair_eq p x y =
    Decides-like ((p.0 == x) && (p.1 == y)) (λ e. λ j. (e.0 j, e.1 j)) (λ e. (ap (λ q. q.0) e, ap (λ q. q.1) e))
    (Decides-and (p.0 == x) (p.1 == y) (Decides-eqb p.0 x) (Decides-eqb p.1 y))

pub list_any-Contains_pair : (ps : List (ℕ × ℕ)) (x y : ℕ) → Decides (list_any (λ p. (p.0 == x) && (p.1 == y)) ps) (Contains ps (x, y))
list_any-Contains_pair ps x y =
    let test : ℕ × ℕ → Bool = λ p. (p.0 == x) && (p.1 == y) in
    Decides-contains ps (x, y) (list_any test ps)
    (Decides-by_or test (λ p. p ≡ (x, y)) (list_any test) (λ p. pair_eq p x y) refl (λ _ _. refl) ps)

relates_by : (b : Bool) (ps : List (ℕ × ℕ)) (x y : ℕ)
    → Decides (if b then list_any (λ p. (p.0 == y) && (p.1 == x)) ps else list_any (λ p. (p.0 == x) && (p.1 == y)) ps)
    (MatchBool b (Contains ps (y, x)) (Contains ps (x, y)))
relates_by true ps x y = list_any-Contains_pair ps y x
relates_by false ps x y = list_any-Contains_pair ps x y

pub relates-Decides : (i : Interpretation) (role : Role) (x y : ℕ) → Decides (relates i role x y) (Relates i role x y)
relates-Decides i role x y = relates_by role.inverted (pairs_of i role.id) x y

pub some_below-Decides : (n : ℕ) (test : ℕ → Bool) (P : ℕ → Type 0) → ((k : ℕ) → Decides (test k) (P k)) → Decides (some_below n test) ((k : ℕ) × (k < n) × P k)
some_below-Decides n test P each = Decides-below_or test P (λ m. some_below m test) each refl (λ _. refl) n

pub each_below-Decides : (n : ℕ) (test : ℕ → Bool) (P : ℕ → Type 0) → ((k : ℕ) → Decides (test k) (P k)) → Decides (each_below n test) ((k : ℕ) → k < n → P k)
each_below-Decides n test P each = Decides-below_and test P (λ m. each_below m test) each refl (λ _. refl) n

pub implies-Decides : (a b : Bool) (P Q : Type 0) → Decides a P → Decides b Q → Decides (implies a b) (P → Q)
implies-Decides true b P Q p q = (λ t x. q.0 t, λ f. q.1 (f (p.0 refl)))
implies-Decides false b P Q p q = (λ t x. absurd (elim_false (p.1 x)), λ f. refl)
  where
    elim_false : false ≡ true → ⊥
    elim_false e = cc

mutual
  pub is_in-Decides : (i : Interpretation) (c : Concept) (x : ℕ) → Decides (is_in i c x) (IsIn i c x)
  is_in-Decides i Everything x = (λ _. tt, λ _. refl)
  is_in-Decides i (Atomic word) x = list_any-Contains (elements_of i word) x
  is_in-Decides i (ComplementOf c) x = Decides-not (is_in i c x) (is_in-Decides i c x)
  is_in-Decides i (IntersectionOf cs) x = is_in_each-Decides i cs x
  is_in-Decides i (UnionOf cs) x = is_in_some-Decides i cs x
  is_in-Decides i (SomeValuesFrom role c) x =
      Decides-like (some_below i.size (λ y. relates i role x y && is_in i c y))
      (λ w. (w.0, w.1, w.2.0, w.2.1))
      (λ w. (w.0, w.1, (w.2, w.3)))
      (some_below-Decides i.size (λ y. relates i role x y && is_in i c y) (λ y. Relates i role x y × IsIn i c y)
      (λ y. Decides-and (relates i role x y) (is_in i c y) (relates-Decides i role x y) (is_in-Decides i c y)))
  is_in-Decides i (AllValuesFrom role c) x =
      each_below-Decides i.size (λ y. implies (relates i role x y) (is_in i c y)) (λ y. Relates i role x y → IsIn i c y)
      (λ y. implies-Decides (relates i role x y) (is_in i c y) (Relates i role x y) (IsIn i c y) (relates-Decides i role x y) (is_in-Decides i c y))
  is_in-Decides i (HasValue role name) x = relates-Decides i role x (element_of i name)

  pub is_in_each-Decides : (i : Interpretation) (cs : Concepts) (x : ℕ) → Decides (is_in_each i cs x) (IsInEach i cs x)
  is_in_each-Decides i no_concept x = (λ _. tt, λ _. refl)
  is_in_each-Decides i (also_concept c cs) x =
      Decides-and (is_in i c x) (is_in_each i cs x) (is_in-Decides i c x) (is_in_each-Decides i cs x)

  pub is_in_some-Decides : (i : Interpretation) (cs : Concepts) (x : ℕ) → Decides (is_in_some i cs x) (IsInSome i cs x)
  is_in_some-Decides i no_concept x = (λ e. cc, λ e. absurd e)
  is_in_some-Decides i (also_concept c cs) x =
      Decides-or (is_in i c x) (is_in_some i cs x) (is_in-Decides i c x) (is_in_some-Decides i cs x)

-- pairs lead on where (x, z) is one of them whenever (x, y) and (y, z) are
leads_on-Decides : (ps : List (ℕ × ℕ))
    → Decides (list_all (λ p. list_all (λ q. implies (q.0 == p.1) (list_any (λ r. (r.0 == p.0) && (r.1 == q.1)) ps)) ps) ps)
    ((x y z : ℕ) → Contains ps (x, y) → Contains ps (y, z) → Contains ps (x, z))
leads_on-Decides ps =
    Decides-like (list_all (λ p. list_all (λ q. implies (q.0 == p.1) (list_any (λ r. (r.0 == p.0) && (r.1 == q.1)) ps)) ps) ps)
    (λ all x y z one other. All-contains (λ q. q.0 ≡ y → Contains ps (x, q.1)) ps (y, z) (All-contains Onward ps (x, y) all one) other refl)
    (λ leads k d lt l e within same. leads (get_or ps k d).0 (get_or ps k d).1 (get_or ps l e).1 (Contains-get_or ps k d lt)
    (subst (λ y. Contains ps (y, (get_or ps l e).1)) same (Contains-get_or ps l e within)))
    (Decides-by_and (λ p. list_all (λ q. implies (q.0 == p.1) (list_any (λ r. (r.0 == p.0) && (r.1 == q.1)) ps)) ps) Onward
    (list_all (λ p. list_all (λ q. implies (q.0 == p.1) (list_any (λ r. (r.0 == p.0) && (r.1 == q.1)) ps)) ps)) onward refl (λ _ _. refl) ps)
  where
    Onward : ℕ × ℕ → Type 0
    Onward p = All (λ q. q.0 ≡ p.1 → Contains ps (p.0, q.1)) ps

    onward : (p : ℕ × ℕ) → Decides (list_all (λ q. implies (q.0 == p.1) (list_any (λ r. (r.0 == p.0) && (r.1 == q.1)) ps)) ps) (Onward p)
    onward p =
        Decides-by_and (λ q. implies (q.0 == p.1) (list_any (λ r. (r.0 == p.0) && (r.1 == q.1)) ps)) (λ q. q.0 ≡ p.1 → Contains ps (p.0, q.1))
        (list_all (λ q. implies (q.0 == p.1) (list_any (λ r. (r.0 == p.0) && (r.1 == q.1)) ps)))
        (λ q. implies-Decides (q.0 == p.1) (list_any (λ r. (r.0 == p.0) && (r.1 == q.1)) ps) (q.0 ≡ p.1) (Contains ps (p.0, q.1)) (Decides-eqb q.0 p.1)
        (list_any-Contains_pair ps p.0 q.1))
        refl (λ _ _. refl) ps

pub holds-Decides : (i : Interpretation) (claim : Claim) → Decides (holds i claim) (Holds i claim)
holds-Decides i (SubClassOf c d) =
    each_below-Decides i.size (λ x. implies (is_in i c x) (is_in i d x)) (λ x. IsIn i c x → IsIn i d x)
    (λ x. implies-Decides (is_in i c x) (is_in i d x) (IsIn i c x) (IsIn i d x) (is_in-Decides i c x) (is_in-Decides i d x))
holds-Decides i (SubPropertyOf r s) =
    each_below-Decides i.size (λ x. each_below i.size (λ y. implies (relates i r x y) (relates i s x y)))
    (λ x. (y : ℕ) → y < i.size → Relates i r x y → Relates i s x y)
    (λ x. each_below-Decides i.size (λ y. implies (relates i r x y) (relates i s x y)) (λ y. Relates i r x y → Relates i s x y)
    (λ y. implies-Decides (relates i r x y) (relates i s x y) (Relates i r x y) (Relates i s x y) (relates-Decides i r x y) (relates-Decides i s x y)))
holds-Decides i (ClassAssertion c name) = is_in-Decides i c (element_of i name)
holds-Decides i (PropertyAssertion r from to) = relates-Decides i r (element_of i from) (element_of i to)
holds-Decides i (NegativePropertyAssertion r from to) =
    Decides-not (relates i r (element_of i from) (element_of i to)) (relates-Decides i r (element_of i from) (element_of i to))
holds-Decides i (SameIndividual one other) = Decides-eqb (element_of i one) (element_of i other)
holds-Decides i (DifferentIndividuals one other) =
    Decides-not (element_of i one == element_of i other) (Decides-eqb (element_of i one) (element_of i other))
holds-Decides i (TransitiveProperty word) = leads_on-Decides (pairs_of i word)

pub all_hold-Decides : (i : Interpretation) (claims : List Claim) → Decides (all_hold i claims) (IsModel i claims)
all_hold-Decides i claims =
    Decides-by_and (holds i) (Holds i) (all_hold i) (holds-Decides i) refl (λ _ _. refl) claims
