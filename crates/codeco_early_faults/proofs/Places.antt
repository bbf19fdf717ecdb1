-- The first rule that a test finds, and its place.
use Rattle.std.proofs.Common.{◌≡◌, ℕ, zero, suc, ◌+◌, ◌-◌, ◌<◌, ◌≤◌, Bool, true, false, not, cond, ◌&&◌, ◌||◌, eqb, ltb, List, [], ◌∷◌, ◌++◌, drop, get_or, length, Option, Some, None, is_some, refl, sym, ap, subst, ◌∙◌, arith, inl, inr}
use Rattle.std.specs.Prelude.{slice_get}
use Rattle.std.specs.List.{list_any, list_all}
use Rattle.std.specs.Option.{option_map_or}
use Rattle.std.proofs.lemmas.List.{at_drop_more, at_drop_all}
use Rattle.std.proofs.lemmas.Bool.{cases_Bool, cases_order, and_left, and_right, ltb-true, ltb-false, lt-ltb, le-ltb, eqb-true}
use Rattle.std.proofs.Math.Bool.{or-false as last}
use Rattle.wiki_base.proofs.ListLaws.{all_same}
use Rattle.codeco_text.specs.declared.written.Domain.{Domain}
use Rattle.codeco_text.specs.declared.written.WrittenRule.{WrittenRule}
use Rattle.codeco_text.specs.declared.written.WrittenItem.{WrittenItem}
use Rattle.codeco_text.specs.declared.written.WrittenItem.TheVariants as item
use Rattle.codeco_text.specs.Names.{is_among}
use Rattle.codeco_numbering.specs.Numbered.{gathered, rules_of, item_rules}
use Rattle.codeco_numbering.proofs.Sound.Tables.{among_gathered}
use Rattle.codeco_early_faults.specs.Early.{is_large_written_rule, is_undeclared_written_rule, at_written_rule, is_large_place, FindsFirst}

-- the number of the first rule that passes a test, which may ask for its number too, where n rules stand before
abbrev pub first_rule : (ℕ → WrittenRule → Bool) → ℕ → List WrittenRule → Option ℕ
first_rule test n [] = None
first_rule test n (r ∷ rs) = cond (test (n + 1) r) (Some (n + 1)) (first_rule test (n + 1) rs)

abbrev pub large_at : ℕ → WrittenRule → Bool
large_at n r = eqb n 501 || is_large_written_rule r

abbrev pub undeclared_at : List (List ℕ) → ℕ → WrittenRule → Bool
undeclared_at names n r = is_undeclared_written_rule names r

-- the test at the rule of this number, where k rules stand before
abbrev pub at_place : (ℕ → WrittenRule → Bool) → ℕ → List WrittenRule → ℕ → Bool
at_place test k rules n = ltb k n && option_map_or (test n) (slice_get rules (n - k - 1)) false

-- the same test finds the same place
pub finds_same : (P Q : ℕ → Bool) → ((n : ℕ) → P n ≡ Q n) → (o : Option ℕ) → FindsFirst P o → FindsFirst Q o
finds_same P Q same None h = λ n. sym (same n) ∙ h n
finds_same P Q same (Some p) h = record { holds = sym (same p) ∙ h.holds; least = λ n lt. sym (same n) ∙ h.least n lt }

-- a rule that fails may be passed over
passed : (test : ℕ → WrittenRule → Bool) (k : ℕ) (r : WrittenRule) (rs : List WrittenRule) → test (k + 1) r ≡ false → (n : ℕ)
    → at_place test (k + 1) rs n ≡ at_place test k (r ∷ rs) n
passed test k r rs fails n = elim (cases_order n (k + 1)) [
  | inl e ↦
      let left : at_place test (k + 1) rs n ≡ false =
      and_left (ltb (k + 1) n) (option_map_or (test n) (slice_get rs (n - (k + 1) - 1)) false) (le-ltb (k + 1) n (omega arith)) in
      let first : n - k - 1 ≡ 0 = omega arith in
      let here : option_map_or (test n) (slice_get (r ∷ rs) (n - k - 1)) false ≡ false =
      ap (λ j. option_map_or (test n) (slice_get (r ∷ rs) j) false) first ∙ ap (λ m. test m r) e ∙ fails in
      left ∙ sym (and_right (ltb k n) (option_map_or (test n) (slice_get (r ∷ rs) (n - k - 1)) false) here)
  | inr (inl lt) ↦
      and_left (ltb (k + 1) n) (option_map_or (test n) (slice_get rs (n - (k + 1) - 1)) false) (le-ltb (k + 1) n (omega arith))
      ∙ sym (and_left (ltb k n) (option_map_or (test n) (slice_get (r ∷ rs) (n - k - 1)) false) (le-ltb k n (omega arith)))
  | inr (inr gt) ↦
      let step : n - k - 1 ≡ suc (n - (k + 1) - 1) = omega arith in
      ap (λ b. b && option_map_or (test n) (slice_get rs (n - (k + 1) - 1)) false) (lt-ltb (k + 1) n gt ∙ sym (lt-ltb k n (omega arith)))
      ∙ sym (ap (λ j. ltb k n && option_map_or (test n) (slice_get (r ∷ rs) j) false) step)
]

pub finds_from : (test : ℕ → WrittenRule → Bool) (k : ℕ) (rules : List WrittenRule) → FindsFirst (at_place test k rules) (first_rule test k rules)
finds_from test k [] = λ n. and_right (ltb k n) false refl
finds_from test k (r ∷ rs) = by (test (k + 1) r) refl (finds_from test (k + 1) rs)
  where
    by : (b : Bool) → test (k + 1) r ≡ b → FindsFirst (at_place test (k + 1) rs) (first_rule test (k + 1) rs)
        → FindsFirst (at_place test k (r ∷ rs)) (cond (test (k + 1) r) (Some (k + 1)) (first_rule test (k + 1) rs))
    by true e rest =
        let first : k + 1 - k - 1 ≡ 0 = omega arith in
        subst (FindsFirst (at_place test k (r ∷ rs))) (sym (ap (λ b. cond b (Some (k + 1)) (first_rule test (k + 1) rs)) e)) (record {
          holds = ap (λ b. b && option_map_or (test (k + 1)) (slice_get (r ∷ rs) (k + 1 - k - 1)) false) (lt-ltb k (k + 1) (omega arith))
              ∙ ap (λ j. option_map_or (test (k + 1)) (slice_get (r ∷ rs) j) false) first ∙ e;
          least = λ n lt. and_left (ltb k n) (option_map_or (test n) (slice_get (r ∷ rs) (n - k - 1)) false) (le-ltb k n (omega arith));
        })
    by false e rest =
        subst (FindsFirst (at_place test k (r ∷ rs))) (sym (ap (λ b. cond b (Some (k + 1)) (first_rule test (k + 1) rs)) e))
        (finds_same (at_place test (k + 1) rs) (at_place test k (r ∷ rs)) (passed test k r rs e) (first_rule test (k + 1) rs) rest)

some_below : {X : Type 0} (xs : List X) (k : ℕ) → is_some (slice_get xs k) ≡ ltb k (length xs)
some_below [] k = sym (le-ltb k 0 (omega arith))
some_below (x ∷ xs) zero = sym (lt-ltb 0 (length (x ∷ xs)) (omega arith))
some_below (x ∷ xs) (suc k) = some_below xs k ∙ step (length xs)
  where
    step : (n : ℕ) → ltb k n ≡ ltb (suc k) (suc n)
    step n = elim (cases_Bool (ltb k n)) [
      | inl e ↦ let lt = ltb-true k n e in e ∙ sym (lt-ltb (suc k) (suc n) (omega arith))
      | inr e ↦ let le = ltb-false k n e in e ∙ sym (le-ltb (suc k) (suc n) (omega arith))
    ]

-- the test at the rule of this number
abbrev pub at_start : (ℕ → WrittenRule → Bool) → List WrittenRule → ℕ → Bool
at_start test rules n = ltb 0 n && option_map_or (test n) (slice_get rules (n - 1)) false

started : (test : ℕ → WrittenRule → Bool) (rules : List WrittenRule) (n : ℕ) → at_place test 0 rules n ≡ at_start test rules n
started test rules n =
    let same : n - 0 - 1 ≡ n - 1 = omega arith in
    ap (λ j. ltb 0 n && option_map_or (test n) (slice_get rules j) false) same

finds : (test : ℕ → WrittenRule → Bool) (rules : List WrittenRule) → FindsFirst (at_start test rules) (first_rule test 0 rules)
finds test rules = finds_same (at_place test 0 rules) (at_start test rules) (started test rules) (first_rule test 0 rules) (finds_from test 0 rules)

-- a large rule, or the 501st
large_places : (rules : List WrittenRule) (n : ℕ) → at_start large_at rules n ≡ is_large_place rules n
large_places rules n = by (eqb n 501) refl
  where
    one : (o : Option WrittenRule) → option_map_or (λ r. true) o false ≡ (option_map_or is_large_written_rule o false || is_some o)
    one None = refl
    one (Some r) = or_true (is_large_written_rule r)
      where
        or_true : (a : Bool) → true ≡ (a || true)
        or_true true = refl
        or_true false = refl

    by : (b : Bool) → eqb n 501 ≡ b → at_start large_at rules n ≡ is_large_place rules n
    by false e =
        ap (λ b. ltb 0 n && option_map_or (λ r. b || is_large_written_rule r) (slice_get rules (n - 1)) false) e
        ∙ sym (ap (λ b. at_written_rule is_large_written_rule rules n || (b && ltb 500 (length rules))) e
        ∙ last (at_written_rule is_large_written_rule rules n))
    by true e =
        let is = eqb-true n 501 e in
        let below : is_some (slice_get rules (n - 1)) ≡ ltb 500 (length rules) = some_below rules (n - 1) ∙ ap (λ m. ltb (m - 1) (length rules)) is in
        let front : ltb 0 n ≡ true = lt-ltb 0 n (omega arith) in
        ap (λ b. ltb 0 n && option_map_or (λ r. b || is_large_written_rule r) (slice_get rules (n - 1)) false) e
        ∙ ap (λ b. b && option_map_or (λ r. true) (slice_get rules (n - 1)) false) front
        ∙ one (slice_get rules (n - 1))
        ∙ ap (λ b. option_map_or is_large_written_rule (slice_get rules (n - 1)) false || b) below
        ∙ sym (ap (λ b. at_written_rule is_large_written_rule rules n || (b && ltb 500 (length rules))) e
        ∙ ap (λ b. (b && option_map_or is_large_written_rule (slice_get rules (n - 1)) false) || ltb 500 (length rules)) front)

-- the place of the first large rule
pub finds_large : (rules : List WrittenRule) (o : Option ℕ) → first_rule large_at 0 rules ≡ o → FindsFirst (is_large_place rules) o
finds_large rules o is = subst (FindsFirst (is_large_place rules)) is
    (finds_same (at_start large_at rules) (is_large_place rules) (large_places rules) (first_rule large_at 0 rules) (finds large_at rules))

-- the place of the first rule with an undeclared feature
pub finds_undeclared : (names : List (List ℕ)) (rules : List WrittenRule) (o : Option ℕ) → first_rule (undeclared_at names) 0 rules ≡ o
    → FindsFirst (at_written_rule (is_undeclared_written_rule names) rules) o
finds_undeclared names rules o is = subst (FindsFirst (at_written_rule (is_undeclared_written_rule names) rules)) is (finds (undeclared_at names) rules)

-- one turn of a loop over items that looks for a rule
module _ (test : ℕ → WrittenRule → Bool) (xs : List WrittenItem) (i n : ℕ) (left : first_rule test n (rules_of (drop i xs)) ≡ first_rule test 0 (rules_of xs))
  where
    pub none_left : length xs ≤ i → first_rule test 0 (rules_of xs) ≡ None
    none_left past = sym left ∙ at_drop_all (λ ys. first_rule test n (rules_of ys)) xs i past

    module _ (x : WrittenItem) (lt : i < length xs) (is : x ≡ get_or xs i x) where
      pub rules_left : rules_of (drop i xs) ≡ item_rules x ++ rules_of (drop (i + 1) xs)
      rules_left = at_drop_more rules_of xs i x lt ∙ sym (ap (λ y. item_rules y ++ rules_of (drop (i + 1) xs)) is)

      turned : first_rule test n (item_rules x ++ rules_of (drop (i + 1) xs)) ≡ first_rule test 0 (rules_of xs)
      turned = ap (first_rule test n) (sym rules_left) ∙ left

      module _ (r : WrittenRule) (rule : x ≡ item.Rule r) where
        rule_turned : cond (test (n + 1) r) (Some (n + 1)) (first_rule test (n + 1) (rules_of (drop (i + 1) xs))) ≡ first_rule test 0 (rules_of xs)
        rule_turned = ap (λ y. first_rule test n (item_rules y ++ rules_of (drop (i + 1) xs))) (sym rule) ∙ turned

        pub rule_passes : test (n + 1) r ≡ true → first_rule test 0 (rules_of xs) ≡ Some (n + 1)
        rule_passes e = sym rule_turned ∙ ap (λ b. cond b (Some (n + 1)) (first_rule test (n + 1) (rules_of (drop (i + 1) xs)))) e

        pub rule_fails : test (n + 1) r ≡ false → first_rule test (n + 1) (rules_of (drop (i + 1) xs)) ≡ first_rule test 0 (rules_of xs)
        rule_fails e = sym (ap (λ b. cond b (Some (n + 1)) (first_rule test (n + 1) (rules_of (drop (i + 1) xs)))) e) ∙ rule_turned

        pub fewer : n + length (rules_of (drop i xs)) ≤ 500 → n + 1 + length (rules_of (drop (i + 1) xs)) ≤ 500
        fewer few =
            let count : length (rules_of (drop i xs)) ≡ length (rules_of (drop (i + 1) xs)) + 1 =
            ap length (rules_left ∙ ap (λ y. item_rules y ++ rules_of (drop (i + 1) xs)) rule) ∙ omega arith in
            omega arith

      pub feature_passed : (name : List ℕ) (d : Domain) → x ≡ item.Feature name d
          → first_rule test n (rules_of (drop (i + 1) xs)) ≡ first_rule test 0 (rules_of xs)
      feature_passed name d feature = ap (λ y. first_rule test n (item_rules y ++ rules_of (drop (i + 1) xs))) (sym feature) ∙ turned

      pub as_few : (name : List ℕ) (d : Domain) → x ≡ item.Feature name d → n + length (rules_of (drop i xs)) ≤ 500
          → n + length (rules_of (drop (i + 1) xs)) ≤ 500
      as_few name d feature few =
          let count : length (rules_of (drop i xs)) ≡ length (rules_of (drop (i + 1) xs)) =
          ap length (rules_left ∙ ap (λ y. item_rules y ++ rules_of (drop (i + 1) xs)) feature) in
          omega arith

-- what a test of all features tells of the one that isn't declared
any_not : {X : Type 0} (p : X → Bool) (xs : List X) → list_any (λ x. not (p x)) xs ≡ not (list_all p xs)
any_not p [] = refl
any_not p (x ∷ xs) = ap (λ b. not (p x) || b) (any_not p xs) ∙ both (p x) (list_all p xs)
  where
    both : (a b : Bool) → (not a || not b) ≡ not (a && b)
    both true b = refl
    both false b = refl

pub undeclared_told : (names ds ws : List (List ℕ)) (b : Bool) → names ≡ gathered [] ds → b ≡ list_all (is_among names) ws
    → list_any (λ w. not (is_among ds w)) ws ≡ not b
undeclared_told names ds ws b is told =
    any_not (is_among ds) ws ∙ ap not (sym
    (told ∙ all_same (is_among names) (is_among ds) (λ w. ap (λ (l : List (List ℕ)). is_among l w) is ∙ among_gathered [] ds w) ws))
