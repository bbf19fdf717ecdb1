-- That no fault holds, from tests that compute: rule by rule, and for left recursion by a rank of each category.
use Rattle.std.proofs.Common.{◌≡◌, ℕ, zero, suc, ◌+◌, ◌-◌, ◌<◌, Bool, true, false, ltb, eqb, not, ◌&&◌, ◌||◌, List, [], ◌∷◌, length, get_or, take, refl, ◌∙◌, subst, arith, inl, inr}
use Rattle.std.specs.Prelude.{slice_get}
use Rattle.std.specs.List.{list_all, list_any}
use Rattle.std.specs.Option.{option_map_or}
use Rattle.std.proofs.lemmas.Bool.{both_ways, or_parts, or_cases, and_parts, and_from, or_from, and_right, ltb-true, eqb-true, not_from_true}
use Rattle.wiki_base.proofs.BoolLaws.{same_tests}
use Rattle.codeco_terms.specs.declared.rules.Rule.{Rule}
use Rattle.codeco_terms.specs.GrammarParts.{GrammarParts}
use Rattle.codeco_checked.specs.declared.fault.GrammarFault.{GrammarFault}
use Rattle.codeco_checked.specs.declared.fault.GrammarFault.TheVariants.{Syntax, TooLarge, Undeclared, BadValue, EmptyRule, LeftRecursion, TakenVariable, LabelKind, NoStart, Memory}
use Rattle.codeco_checked.specs.Faults.{at_rule, has_broad_category, is_large_rule, has_large_declarations, is_too_large, is_undeclared_rule, is_bad_rule, has_double_declaration, is_bad_value, is_empty_rule, first_category, StepsTo, Leads, IsRecursive, is_taking_rule, has_start}
use Rattle.codeco_checked.specs.declared.labels.Kind.{Kind}
use Rattle.codeco_checked.specs.declared.labels.Kind.TheVariants.{Text, Sentence}
use Rattle.codeco_checked.specs.Labels.{is_mark, is_mark_rule, is_mark_in, fits_label, FitKinds, differs_from_first, IsMisfit}
use Rattle.codeco_checked.specs.Sound.{Holds}

-- what stands first in the rule has a lower rank than its head
abbrev pub falls : (ℕ → ℕ) → Rule → Bool
falls rank r = option_map_or (λ c. ltb (rank c) (rank r.head.name)) (first_category r.body) true

-- the kinds of a list, by the categories' numbers
abbrev pub kind_in : List Kind → ℕ → Kind
kind_in kinds name = get_or kinds name Sentence

-- the head is a mark, where the rule has the label mark
abbrev pub is_marked_right : List Kind → Rule → Bool
is_marked_right kinds r = not (is_mark_rule r) || is_mark (kind_in kinds r.head.name)

-- from this category on, each kind that is a mark is one in these rules
abbrev pub are_marks : List Rule → ℕ → List Kind → Bool
are_marks rules name [] = true
are_marks rules name (k ∷ ks) = (not (is_mark k) || is_mark_in rules name) && are_marks rules (name + 1) ks

-- the tests that show that no fault holds
pub record PassesTests (g : GrammarParts) (rank : ℕ → ℕ) (kinds : List Kind) : Type 0 where
  pub declarations : has_large_declarations g ≡ false
  pub broad : has_broad_category g ≡ false
  pub large : list_any (is_large_rule g) g.rules ≡ false
  pub count : ltb 500 (length g.rules) ≡ false
  pub undeclared : list_any (is_undeclared_rule g) g.rules ≡ false
  pub double : has_double_declaration g ≡ false
  pub bad : list_any (is_bad_rule g) g.rules ≡ false
  pub empty : list_any is_empty_rule g.rules ≡ false
  pub falls : list_all (falls rank) g.rules ≡ true
  pub taken : list_any is_taking_rule g.rules ≡ false
  pub alike : list_any (differs_from_first g.rules) g.rules ≡ false
  pub marked : list_all (is_marked_right kinds) g.rules ≡ true
  pub marks : are_marks g.rules 0 kinds ≡ true
  pub text : kind_in kinds 5 ≡ Text
  pub fit : list_all (fits_label (kind_in kinds)) g.rules ≡ true
  pub start : has_start g ≡ true

any_at : (test : Rule → Bool) (rs : List Rule) (k : ℕ) → list_any test rs ≡ false → option_map_or test (slice_get rs k) false ≡ false
any_at test [] k h = refl
any_at test (r ∷ rs) zero h = (or_parts (test r) (list_any test rs) h).0
any_at test (r ∷ rs) (suc k) h = any_at test rs k (or_parts (test r) (list_any test rs) h).1

pub at_rule_none : (test : Rule → Bool) (rs : List Rule) (n : ℕ) → list_any test rs ≡ false → at_rule test rs n ≡ false
at_rule_none test rs n h = and_right (ltb 0 n) (option_map_or test (slice_get rs (n - 1)) false) (any_at test rs (n - 1) h)

pub all_at : (test : Rule → Bool) (rs : List Rule) (k : ℕ) (d : Rule) → list_all test rs ≡ true → k < length rs → test (get_or rs k d) ≡ true
all_at test [] k d h lt = absurd (omega arith)
all_at test (r ∷ rs) zero d h lt = (and_parts (test r) (list_all test rs) h).0
all_at test (r ∷ rs) (suc k) d h lt = all_at test rs k d (and_parts (test r) (list_all test rs) h).1 (omega arith)

step_falls : (g : GrammarParts) (rank : ℕ → ℕ) → list_all (falls rank) g.rules ≡ true → (from to : ℕ) → StepsTo g from to → rank to < rank from
step_falls g rank h from to step =
    let r = step.0 in
    let here : falls rank r ≡ true = subst (λ x. falls rank x ≡ true) step.1.2 (all_at (falls rank) g.rules step.1.0 r h step.1.1) in
    let low : ltb (rank to) (rank r.head.name) ≡ true = subst (λ o. option_map_or (λ c. ltb (rank c) (rank r.head.name)) o true ≡ true) step.3 here in
    subst (λ n. rank to < rank n) step.2 (ltb-true (rank to) (rank r.head.name) low)

leads_falls : (g : GrammarParts) (rank : ℕ → ℕ) → list_all (falls rank) g.rules ≡ true → (from : ℕ) (between : List ℕ) (to : ℕ) → Leads g from between to
    → rank to < rank from
leads_falls g rank h from [] to leads = step_falls g rank h from to leads
leads_falls g rank h from (c ∷ cs) to leads =
    let first = step_falls g rank h from c leads.0 in
    let others = leads_falls g rank h c cs to leads.1 in
    omega arith

pub not_recursive : (g : GrammarParts) (rank : ℕ → ℕ) → list_all (falls rank) g.rules ≡ true → (name : ℕ) → IsRecursive g name → ⊥
not_recursive g rank h name loops =
    let lower = leads_falls g rank h name loops.0 name loops.1 in
    omega arith

-- Kinds that fit all rules

-- one of two, where the first is not denied
second_of : (a b : Bool) → (not a || b) ≡ true → a ≡ true → b ≡ true
second_of true b h e = h
second_of false b h e = absurd cc

marked_is_mark : (kinds : List Kind) (rs : List Rule) (name : ℕ) → list_all (is_marked_right kinds) rs ≡ true → is_mark_in rs name ≡ true
    → is_mark (kind_in kinds name) ≡ true
marked_is_mark kinds [] name h e = absurd cc
marked_is_mark kinds (r ∷ rs) name h e =
    let right = and_parts (is_marked_right kinds r) (list_all (is_marked_right kinds) rs) h in
    elim (or_cases (is_mark_rule r && eqb r.head.name name) (is_mark_in rs name) e) [
      | inl here ↦
          let parts = and_parts (is_mark_rule r) (eqb r.head.name name) here in
          subst (λ n. is_mark (kind_in kinds n) ≡ true) (eqb-true r.head.name name parts.1)
          (second_of (is_mark_rule r) (is_mark (kind_in kinds r.head.name)) right.0 parts.0)
      | inr others ↦ marked_is_mark kinds rs name right.1 others
    ]

mark_is_marked : (rules : List Rule) (from : ℕ) (kinds : List Kind) (k : ℕ) → are_marks rules from kinds ≡ true → is_mark (kind_in kinds k) ≡ true
    → is_mark_in rules (from + k) ≡ true
mark_is_marked rules from [] k h e = absurd cc
mark_is_marked rules from (l ∷ ls) zero h e =
    let parts = and_parts (not (is_mark l) || is_mark_in rules from) (are_marks rules (from + 1) ls) h in
    let same : from ≡ from + 0 = omega arith in
    subst (λ n. is_mark_in rules n ≡ true) same (second_of (is_mark l) (is_mark_in rules from) parts.0 e)
mark_is_marked rules from (l ∷ ls) (suc k) h e =
    let parts = and_parts (not (is_mark l) || is_mark_in rules from) (are_marks rules (from + 1) ls) h in
    let same : (from + 1) + k ≡ from + suc k = omega arith in
    subst (λ n. is_mark_in rules n ≡ true) same (mark_is_marked rules (from + 1) ls k parts.1 e)

all_taken : {X : Type 0} (p : X → Bool) (xs : List X) (n : ℕ) → list_all p xs ≡ true → list_all p (take n xs) ≡ true
all_taken p xs zero h = refl
all_taken p [] (suc n) h = refl
all_taken p (x ∷ xs) (suc n) h =
    let parts = and_parts (p x) (list_all p xs) h in
    and_from (p x) (list_all p (take n xs)) parts.0 (all_taken p xs n parts.1)

pub kinds_fit : (g : GrammarParts) (rank : ℕ → ℕ) (kinds : List Kind) → PassesTests g rank kinds → (n : ℕ) → FitKinds g.rules n (kind_in kinds)
kinds_fit g rank kinds t n = record {
  marks = λ name. same_tests (is_mark (kind_in kinds name)) (is_mark_in g.rules name)
      (λ e. subst (λ m. is_mark_in g.rules m ≡ true) (omega arith) (mark_is_marked g.rules 0 kinds name t.marks e))
      (marked_is_mark kinds g.rules name t.marked);
  text = t.text;
  fit = all_taken (fits_label (kind_in kinds)) g.rules n t.fit;
}

no_misfit : (g : GrammarParts) (rank : ℕ → ℕ) (kinds : List Kind) → PassesTests g rank kinds → (n : ℕ) → IsMisfit g.rules n → ⊥
no_misfit g rank kinds t n h =
    elim h.3 [
      | inl differs ↦
          let none = any_at (differs_from_first g.rules) g.rules (n - 1) t.alike in
          both_ways (differs_from_first g.rules h.0) (subst (λ o. option_map_or (differs_from_first g.rules) o false ≡ false) h.2 none) differs
      | inr none ↦ none (kind_in kinds) (kinds_fit g rank kinds t n)
    ]

not_large : (g : GrammarParts) (rank : ℕ → ℕ) (kinds : List Kind) → PassesTests g rank kinds → (n : ℕ) → is_too_large g n ≡ false
not_large g rank kinds t n =
    or_from _ _ (or_from _ _ (or_from _ _ (and_right (eqb n 0) (has_large_declarations g) t.declarations) (and_right (eqb n 1) (has_broad_category g) t.broad))
    (at_rule_none (is_large_rule g) g.rules n t.large)) (and_right (eqb n 501) (ltb 500 (length g.rules)) t.count)

not_bad : (g : GrammarParts) (rank : ℕ → ℕ) (kinds : List Kind) → PassesTests g rank kinds → (n : ℕ) → is_bad_value g n ≡ false
not_bad g rank kinds t n = or_from _ _ (and_right (eqb n 0) (has_double_declaration g) t.double) (at_rule_none (is_bad_rule g) g.rules n t.bad)

-- no fault holds of a grammar that passes the tests
pub faultless : (g : GrammarParts) (rank : ℕ → ℕ) (kinds : List Kind) → PassesTests g rank kinds → (fault : GrammarFault) → Holds g fault → ⊥
faultless g rank kinds t (Syntax byte) h = h
faultless g rank kinds t (TooLarge n) h = both_ways (is_too_large g n) (not_large g rank kinds t n) h
faultless g rank kinds t (Undeclared n) h = both_ways (at_rule (is_undeclared_rule g) g.rules n) (at_rule_none (is_undeclared_rule g) g.rules n t.undeclared) h
faultless g rank kinds t (BadValue n) h = both_ways (is_bad_value g n) (not_bad g rank kinds t n) h
faultless g rank kinds t (EmptyRule n) h = both_ways (at_rule is_empty_rule g.rules n) (at_rule_none is_empty_rule g.rules n t.empty) h
faultless g rank kinds t (LeftRecursion n) h = not_recursive g rank t.falls h.0.head.name h.3
faultless g rank kinds t (TakenVariable n) h = both_ways (at_rule is_taking_rule g.rules n) (at_rule_none is_taking_rule g.rules n t.taken) h
faultless g rank kinds t (LabelKind n) h = no_misfit g rank kinds t n h
faultless g rank kinds t NoStart h = both_ways (not (has_start g)) (not_from_true (has_start g) t.start) h
faultless g rank kinds t Memory h = h
