-- The fault of least number at its first place, from the first place of each fault.
use Rattle.std.proofs.Common.{◌≡◌, ℕ, ◌+◌, ◌-◌, ◌<◌, ◌≤◌, Bool, true, false, not, ◌&&◌, eqb, ltb, List, length, refl, sym, ap, ◌∙◌, subst, arith, inl, inr, Some, None, Option}
use Rattle.std.specs.Prelude.{slice_get, IsTrue}
use Rattle.std.specs.Option.{option_map_or}
use Rattle.std.proofs.lemmas.Bool.{cases_Bool, cases_lt, or_cases, or_left, or_right, and_parts, and_from, eqb-true, ltb-true, ltb-false, lt-ltb, both_ways}
use Rattle.codeco_terms.specs.declared.rules.Rule.{Rule}
use Rattle.codeco_terms.specs.GrammarParts.{GrammarParts}
use Rattle.codeco_checked.specs.declared.fault.GrammarFault.{GrammarFault}
use Rattle.codeco_checked.specs.declared.fault.GrammarFault.TheVariants.{Syntax, TooLarge, Undeclared, BadValue, EmptyRule, LeftRecursion, TakenVariable, LabelKind, NoStart, Memory}
use Rattle.codeco_checked.specs.Faults.{at_rule, is_bad_rule, has_double_declaration, is_empty_rule, IsRecursive, is_taking_rule, has_start}
use Rattle.codeco_checked.specs.Labels.{IsMisfit}
use Rattle.codeco_checked.specs.Sound.{Holds}
use Rattle.codeco_checked.specs.FirstFault.{fault_number, fault_place, is_before, IsFirst}
use Rattle.codeco_labels.specs.Misfits.{FirstMisfit}
use Rattle.codeco_late_faults.specs.First.{IsNowhere, IsFirstPlace}

-- no fault of a number below this one holds
abbrev pub NoneBelow : GrammarParts → ℕ → Type 0
NoneBelow g k = (f : GrammarFault) → fault_number f < k → Holds g f → ⊥

-- no fault before the first that this crate looks for holds
abbrev pub NoneEarly : GrammarParts → Type 0
NoneEarly g = (f : GrammarFault) → IsTrue (is_before f (BadValue 1)) → Holds g f → ⊥

-- the faults of a number hold of rules, where it is so
pub record IsRuleFault (g : GrammarParts) (k : ℕ) (F : ℕ → GrammarFault) (P : Rule → Type 0) : Type 0 where
  pub number : (n : ℕ) → fault_number (F n) ≡ k
  pub place : (n : ℕ) → fault_place (F n) ≡ n
  pub only : (f : GrammarFault) → fault_number f ≡ k → Holds g f → (x : Rule) × (0 < fault_place f) × (slice_get g.rules (fault_place f - 1) ≡ Some x) × P x
  pub holds : (i : ℕ) (x : Rule) → slice_get g.rules i ≡ Some x → P x → Holds g (F (i + 1))

pub none_more : (g : GrammarParts) (k : ℕ) → NoneBelow g k → ((f : GrammarFault) → fault_number f ≡ k → Holds g f → ⊥) → NoneBelow g (k + 1)
none_more g k below here f lt h =
    elim (cases_lt (fault_number f) k) [
      | inl less ↦ below f less h
      | inr more ↦ here f (omega arith) h
    ]

-- where a fault of rules holds nowhere
pub none_of : (g : GrammarParts) (k : ℕ) (F : ℕ → GrammarFault) (P : Rule → Type 0) → IsRuleFault g k F P → NoneBelow g k → IsNowhere P g.rules
    → NoneBelow g (k + 1)
none_of g k F P is below nowhere =
    none_more g k below (λ f e h. let at = is.only f e h in nowhere (fault_place f - 1) at.0 at.2 at.3)

pub is_first : (g : GrammarParts) (fault : GrammarFault) → Holds g fault → NoneBelow g (fault_number fault)
    → ((f : GrammarFault) → fault_number f ≡ fault_number fault → fault_place f < fault_place fault → Holds g f → ⊥) → IsFirst g fault
is_first g fault h below same = record {
  holds = h;
  least = λ other before holds. elim (or_cases (ltb (fault_number other) (fault_number fault))
      (eqb (fault_number other) (fault_number fault) && ltb (fault_place other) (fault_place fault)) before) [
        | inl less ↦ below other (ltb-true (fault_number other) (fault_number fault) less) holds
        | inr place ↦
            let parts = and_parts (eqb (fault_number other) (fault_number fault)) (ltb (fault_place other) (fault_place fault)) place in
            same other (eqb-true (fault_number other) (fault_number fault) parts.0) (ltb-true (fault_place other) (fault_place fault) parts.1) holds
      ];
}

-- where a fault of rules holds at a first place
pub first_of : (g : GrammarParts) (k : ℕ) (F : ℕ → GrammarFault) (P : Rule → Type 0) → IsRuleFault g k F P → NoneBelow g k → (i : ℕ) → IsFirstPlace P g.rules i
    → IsFirst g (F (i + 1))
first_of g k F P is below i first =
    is_first g (F (i + 1)) (is.holds i first.here.0 first.here.1 first.here.2)
    (subst (λ n. NoneBelow g n) (sym (is.number (i + 1))) below)
    (λ f e lt h.
    let at = is.only f (e ∙ is.number (i + 1)) h in
    let place = is.place (i + 1) in
    first.before (fault_place f - 1) at.0 (omega (arith, at.1)) at.2 at.3)

-- The faults of rules that a test decides.

at_place : (test : Rule → Bool) (rules : List Rule) (n : ℕ) → at_rule test rules n ≡ true
    → (x : Rule) × (0 < n) × (slice_get rules (n - 1) ≡ Some x) × IsTrue (test x)
at_place test rules n h =
    let parts = and_parts (ltb 0 n) (option_map_or test (slice_get rules (n - 1)) false) h in
    let found = some_at (slice_get rules (n - 1)) parts.1 in
    (found.0, ltb-true 0 n parts.0, found.1, found.2)
  where
    some_at : (o : Option Rule) → option_map_or test o false ≡ true → (x : Rule) × (o ≡ Some x) × IsTrue (test x)
    some_at None e = absurd cc
    some_at (Some x) e = (x, refl, e)

place_at : (test : Rule → Bool) (rules : List Rule) (i : ℕ) (x : Rule) → slice_get rules i ≡ Some x → IsTrue (test x) → at_rule test rules (i + 1) ≡ true
place_at test rules i x e h =
    let back : (i + 1) - 1 ≡ i = omega arith in
    and_from (ltb 0 (i + 1)) (option_map_or test (slice_get rules ((i + 1) - 1)) false) (lt-ltb 0 (i + 1) (omega arith))
    (ap (λ n. option_map_or test (slice_get rules n) false) back ∙ ap (λ o. option_map_or test o false) e ∙ h)

-- a value that its feature doesn't have, or the like, where no declaration is double
bad_only : (g : GrammarParts) → (Holds g (BadValue 0) → ⊥) → (f : GrammarFault) → fault_number f ≡ 4 → Holds g f
    → (x : Rule) × (0 < fault_place f) × (slice_get g.rules (fault_place f - 1) ≡ Some x) × IsTrue (is_bad_rule g x)
bad_only g none (BadValue n) e h =
    elim (or_cases (eqb n 0 && has_double_declaration g) (at_rule (is_bad_rule g) g.rules n) h) [
      | inl double ↦ absurd (none (subst (λ m. Holds g (BadValue m)) (eqb-true n 0 (and_parts (eqb n 0) (has_double_declaration g) double).0) h))
      | inr rule ↦ at_place (is_bad_rule g) g.rules n rule
    ]
bad_only g none x e h = absurd (omega arith)

pub bad_fault : (g : GrammarParts) → (Holds g (BadValue 0) → ⊥) → IsRuleFault g 4 BadValue (λ r. IsTrue (is_bad_rule g r))
bad_fault g none = record {
  number = λ n. refl;
  place = λ n. refl;
  only = bad_only g none;
  holds = λ i x e h. or_right (eqb (i + 1) 0 && has_double_declaration g) (at_rule (is_bad_rule g) g.rules (i + 1)) (place_at (is_bad_rule g) g.rules i x e h);
}

empty_only : (g : GrammarParts) (f : GrammarFault) → fault_number f ≡ 5 → Holds g f
    → (x : Rule) × (0 < fault_place f) × (slice_get g.rules (fault_place f - 1) ≡ Some x) × IsTrue (is_empty_rule x)
empty_only g (EmptyRule n) e h = at_place is_empty_rule g.rules n h
empty_only g f e h = absurd (omega arith)

pub empty_fault : (g : GrammarParts) → IsRuleFault g 5 EmptyRule (λ r. IsTrue (is_empty_rule r))
empty_fault g = record {
  number = λ n. refl;
  place = λ n. refl;
  only = empty_only g;
  holds = λ i x e h. place_at is_empty_rule g.rules i x e h;
}

back : (i : ℕ) → (i + 1) - 1 ≡ i
back i = omega arith

recursive_only : (g : GrammarParts) (f : GrammarFault) → fault_number f ≡ 6 → Holds g f
    → (x : Rule) × (0 < fault_place f) × (slice_get g.rules (fault_place f - 1) ≡ Some x) × IsRecursive g x.head.name
recursive_only g (LeftRecursion n) e h = (h.0, h.1, h.2, h.3)
recursive_only g f e h = absurd (omega arith)

pub recursive_fault : (g : GrammarParts) → IsRuleFault g 6 LeftRecursion (λ r. IsRecursive g r.head.name)
recursive_fault g = record {
  number = λ n. refl;
  place = λ n. refl;
  only = recursive_only g;
  holds = λ i x e h. (x, omega arith, ap (slice_get g.rules) (back i) ∙ e, h);
}

taking_only : (g : GrammarParts) (f : GrammarFault) → fault_number f ≡ 7 → Holds g f
    → (x : Rule) × (0 < fault_place f) × (slice_get g.rules (fault_place f - 1) ≡ Some x) × IsTrue (is_taking_rule x)
taking_only g (TakenVariable n) e h = at_place is_taking_rule g.rules n h
taking_only g f e h = absurd (omega arith)

pub taking_fault : (g : GrammarParts) → IsRuleFault g 7 TakenVariable (λ r. IsTrue (is_taking_rule r))
taking_fault g = record {
  number = λ n. refl;
  place = λ n. refl;
  only = taking_only g;
  holds = λ i x e h. place_at is_taking_rule g.rules i x e h;
}

-- the labels don't fit
label_only : (g : GrammarParts) (f : GrammarFault) → fault_number f ≡ 8 → Holds g f → IsMisfit g.rules (fault_place f)
label_only g (LabelKind n) e h = h
label_only g f e h = absurd (omega arith)

pub first_label : (g : GrammarParts) → NoneBelow g 8 → (i : ℕ) → FirstMisfit g.rules (Some i) → IsFirst g (LabelKind (i + 1))
first_label g below i first =
    is_first g (LabelKind (i + 1)) first.0 below (λ f e lt h. first.1 (fault_place f) (omega arith) (label_only g f e h))

pub below_start : (g : GrammarParts) → NoneBelow g 8 → FirstMisfit g.rules None → NoneBelow g 9
below_start g below none = none_more g 8 below (λ f e h. none (fault_place f) (label_only g f e h))

start_only : (g : GrammarParts) (f : GrammarFault) → fault_number f ≡ 9 → Holds g f → IsTrue (not (has_start g)) × (fault_place f ≡ 0)
start_only g NoStart e h = (h, refl)
start_only g f e h = absurd (omega arith)

pub first_start : (g : GrammarParts) → NoneBelow g 9 → has_start g ≡ false → IsFirst g NoStart
first_start g below none =
    is_first g NoStart (ap not none) below (λ f e lt h. let at = start_only g f e h in omega (arith, at.1))

none_all : (g : GrammarParts) → NoneBelow g 10 → (f : GrammarFault) → Holds g f → ⊥
none_all g below (Syntax n) h = below (Syntax n) (omega arith) h
none_all g below (TooLarge n) h = below (TooLarge n) (omega arith) h
none_all g below (Undeclared n) h = below (Undeclared n) (omega arith) h
none_all g below (BadValue n) h = below (BadValue n) (omega arith) h
none_all g below (EmptyRule n) h = below (EmptyRule n) (omega arith) h
none_all g below (LeftRecursion n) h = below (LeftRecursion n) (omega arith) h
none_all g below (TakenVariable n) h = below (TakenVariable n) (omega arith) h
none_all g below (LabelKind n) h = below (LabelKind n) (omega arith) h
none_all g below NoStart h = below NoStart (omega arith) h
none_all g below Memory h = h

pub none_left : (g : GrammarParts) → NoneBelow g 9 → has_start g ≡ true → (f : GrammarFault) → Holds g f → ⊥
none_left g below is =
    none_all g (none_more g 9 below (λ f e h. both_ways (not (has_start g)) (ap not is) (start_only g f e h).0))

-- what is known at the beginning

pub early_below : (g : GrammarParts) → NoneEarly g → NoneBelow g 4
early_below g early f lt h = early f (or_left (ltb (fault_number f) 4) (eqb (fault_number f) 4 && ltb (fault_place f) 1) (lt-ltb (fault_number f) 4 lt)) h

pub early_double : (g : GrammarParts) → NoneEarly g → Holds g (BadValue 0) → ⊥
early_double g early h = early (BadValue 0) refl h

pub few_rules : (g : GrammarParts) → NoneEarly g → length g.rules ≤ 500
few_rules g early =
    elim (cases_Bool (ltb 500 (length g.rules))) [
      | inl many ↦ absurd (early (TooLarge 501) refl (or_right _ _ many))
      | inr few ↦ ltb-false 500 (length g.rules) few
    ]
