-- Features with the same values have one class.
use Rattle.std.proofs.Common.{◌≡◌, ℕ, zero, suc, ◌+◌, ◌<◌, true, false, not, cond, eqb, List, [], ◌∷◌, length, refl, sym, ap, ◌∙◌, arith, inl, inr, ◌⊎◌}
use Rattle.std.specs.List.{list_all}
use Rattle.std.proofs.lemmas.Bool.{cases_Bool, and_parts, and_from, or_left, or_right, eq-eqb, ne_eqb, both_ways}
use Rattle.wiki_base.proofs.ListLaws.{all_weaken}
use Rattle.codeco_checked.proofs.NumberingLemmas.{all_has}
use Rattle.codeco_terms.specs.declared.declarations.Declared.{Declared}
use Rattle.codeco_terms.specs.declared.declarations.Declared.TheVariants.{Undeclared, Words, Positions, Atoms}
use Rattle.codeco_terms.specs.declared.declarations.Feature.{Feature}
use Rattle.codeco_checked.specs.Numbering.{has}
use Rattle.codeco_checked.specs.Faults.{same_values}
use Rattle.codeco_late_faults.specs.Tables.{values_in, class_in}

all_self : (xs : List ℕ) → list_all (has xs) xs ≡ true
all_self [] = refl
all_self (x ∷ xs) =
    and_from (has (x ∷ xs) x) (list_all (has (x ∷ xs)) xs) (or_left (eqb x x) (has xs x) (eq-eqb x x refl))
    (all_weaken (has xs) (has (x ∷ xs)) (λ y h. or_right (eqb y x) (has xs y) h) xs (all_self xs))

within : (xs ys zs : List ℕ) → list_all (has ys) xs ≡ true → list_all (has zs) ys ≡ true → list_all (has zs) xs ≡ true
within xs ys zs h k = all_weaken (has ys) (has zs) (λ x e. all_has (has zs) ys x k e) xs h

same_refl : (d : Declared) → same_values d d ≡ true
same_refl Undeclared = refl
same_refl Words = refl
same_refl Positions = refl
same_refl (Atoms xs) = and_from (list_all (has xs) xs) (list_all (has xs) xs) (all_self xs) (all_self xs)

same_sym : (d e : Declared) → same_values d e ≡ true → same_values e d ≡ true
same_sym Undeclared Undeclared h = refl
same_sym Words Words h = refl
same_sym Positions Positions h = refl
same_sym (Atoms xs) (Atoms ys) h =
    let parts = and_parts (list_all (has ys) xs) (list_all (has xs) ys) h in
    and_from (list_all (has xs) ys) (list_all (has ys) xs) parts.1 parts.0
same_sym d e h = absurd cc

atoms_trans : (xs ys : List ℕ) (k : Declared) → same_values (Atoms xs) (Atoms ys) ≡ true → same_values (Atoms ys) k ≡ true → same_values (Atoms xs) k ≡ true
atoms_trans xs ys Undeclared h e = absurd cc
atoms_trans xs ys Words h e = absurd cc
atoms_trans xs ys Positions h e = absurd cc
atoms_trans xs ys (Atoms zs) h e =
    let one = and_parts (list_all (has ys) xs) (list_all (has xs) ys) h in
    let two = and_parts (list_all (has zs) ys) (list_all (has ys) zs) e in
    and_from (list_all (has zs) xs) (list_all (has xs) zs) (within xs ys zs one.0 two.0) (within zs ys xs two.1 one.1)

same_trans : (d e k : Declared) → same_values d e ≡ true → same_values e k ≡ true → same_values d k ≡ true
same_trans Undeclared Undeclared k h l = l
same_trans Words Words k h l = l
same_trans Positions Positions k h l = l
same_trans (Atoms xs) (Atoms ys) k h l = atoms_trans xs ys k h l
same_trans d e k h l = absurd cc

-- both have the same values as the same others
same_others : (d e k : Declared) → same_values d e ≡ true → same_values d k ≡ same_values e k
same_others d e k h =
    elim (cases_Bool (same_values d k)) [
      | inl is ↦ is ∙ sym (same_trans e d k (same_sym d e h) is)
      | inr none ↦
          elim (cases_Bool (same_values e k)) [
            | inl is ↦ absurd (both_ways (same_values d k) none (same_trans d e k h is))
            | inr both ↦ none ∙ sym both
          ]
    ]

class_eq : (features : List Feature) (d e : Declared) → same_values d e ≡ true → class_in features d ≡ class_in features e
class_eq [] d e h = refl
class_eq (x ∷ xs) d e h =
    ap (λ b. cond (not b) (1 + class_in xs d) 0) (same_others d e x.declared h) ∙ ap (λ n. cond (not (same_values e x.declared)) (1 + n) 0) (class_eq xs d e h)

class_here : (x : Feature) (xs : List Feature) (d : Declared) → same_values d x.declared ≡ true → class_in (x ∷ xs) d ≡ 0
class_here x xs d h = ap (λ b. cond (not b) (1 + class_in xs d) 0) h

class_later : (x : Feature) (xs : List Feature) (d : Declared) → same_values d x.declared ≡ false → class_in (x ∷ xs) d ≡ 1 + class_in xs d
class_later x xs d h = ap (λ b. cond (not b) (1 + class_in xs d) 0) h

-- where both have one class that is a feature's, they have its values
class_common : (features : List Feature) (d e : Declared) → class_in features d ≡ class_in features e → class_in features d < length features
    → (x : Feature) × (same_values d x.declared ≡ true) × (same_values e x.declared ≡ true)
class_common [] d e h lt = absurd (omega arith)
class_common (x ∷ xs) d e h lt =
    elim (cases_Bool (same_values d x.declared)) [
      | inl one ↦
          elim (cases_Bool (same_values e x.declared)) [
            | inl two ↦ (x, one, two)
            | inr two ↦ absurd (omega (arith, h, class_here x xs d one, class_later x xs e two))
          ]
      | inr one ↦
          elim (cases_Bool (same_values e x.declared)) [
            | inl two ↦ absurd (omega (arith, h, class_later x xs d one, class_here x xs e two))
            | inr two ↦ class_common xs d e (omega (arith, h, class_later x xs d one, class_later x xs e two)) (omega (arith, lt, class_later x xs d one))
          ]
    ]

-- a feature has a class below the number of features, or is undeclared
class_or_none : (features : List Feature) (f : ℕ) (d : Declared) → d ≡ values_in features f → (class_in features d < length features) ⊎ (d ≡ Undeclared)
class_or_none [] f d e = inr e
class_or_none (x ∷ xs) zero d e =
    let here = class_here x xs d (ap (λ k. same_values k x.declared) e ∙ same_refl x.declared) in
    inl (omega (arith, here))
class_or_none (x ∷ xs) (suc f) d e =
    elim (cases_Bool (same_values d x.declared)) [
      | inl is ↦ let here = class_here x xs d is in inl (omega (arith, here))
      | inr none ↦
          elim (class_or_none xs f d e) [
            | inl lt ↦ inl (omega (arith, lt, class_later x xs d none))
            | inr out ↦ inr out
          ]
    ]

-- two features have the same values where they have one class
pub class_same : (features : List Feature) (f h : ℕ)
    → same_values (values_in features f) (values_in features h) ≡ eqb (class_in features (values_in features f)) (class_in features (values_in features h))
class_same features f h =
    let d = values_in features f in
    let e = values_in features h in
    elim (cases_Bool (same_values d e)) [
      | inl is ↦ is ∙ sym (eq-eqb (class_in features d) (class_in features e) (class_eq features d e is))
      | inr none ↦ none ∙ sym (ne_eqb (class_in features d) (class_in features e) (differ none))
    ]
  where
    differ : same_values (values_in features f) (values_in features h) ≡ false
        → class_in features (values_in features f) ≡ class_in features (values_in features h) → ⊥
    differ none one =
        let d = values_in features f in
        let e = values_in features h in
        let meet : class_in features d < length features → ⊥ = λ lt.
        let x = class_common features d e one lt in
        both_ways (same_values d e) none (same_trans d x.0.declared e x.1 (same_sym e x.0.declared x.2)) in
        elim (class_or_none features f d refl) [
          | inl lt ↦ meet lt
          | inr out ↦
              elim (class_or_none features h e refl) [
                | inl lt ↦ meet (omega (arith, one, lt))
                | inr gone ↦ both_ways (same_values d e) none (ap (λ k. same_values k e) out ∙ ap (same_values Undeclared) gone)
              ]
        ]
