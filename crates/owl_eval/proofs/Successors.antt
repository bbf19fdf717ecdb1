-- Successors by a run of pairs, and by their definition.
use Rattle.std.proofs.Common.{◌≡◌, ℕ, zero, suc, ◌<◌, ◌≤◌, ◌==◌, ◌&&◌, ◌||◌, Bool, true, false, List, [], ◌∷◌, map, Option, Some, unwrap_or, cond, refl, sym, ap, ◌∙◌, inl, inr, arith}
use Rattle.std.specs.Prelude.{nat_lt, not, if◌then◌else◌}
use Rattle.std.specs.List.{list_any, list_all}
use Rattle.std.specs.Map.{lookup}
use Rattle.std.proofs.lemmas.Bool.{ltb-true, and_parts, eq-eqb, ne_eqb, cases_eq}
use Rattle.std.proofs.Math.Bool.{or-false as or_none, and_comm}
use Rattle.std.proofs.lemmas.List.Folds.{list_all-map}
use Rattle.wiki_base.proofs.BoolLaws.{or-turn as swap_or, and-not}
use Rattle.wiki_base.specs.declared.numbers.WordId.{WordId}
use Rattle.logic_terms.specs.declared.expressions.Role.{Role}
use Rattle.logic_terms.specs.Interpretation.{Interpretation, is_interpretation, is_word, words_rise, elements_of, pairs_of, has_element, relates}
use Rattle.logic_terms.specs.Meaning.{implies, some_below, each_below}
use Rattle.owl_eval.specs.Pairs.{swapped, pairs_along}
use Rattle.owl_eval.proofs.Filters.{list_all-not}

-- laws of the tests below a bound
none_below : (n : ℕ) (test : ℕ → Bool) → ((k : ℕ) → test k ≡ false) → some_below n test ≡ false
none_below zero test none = refl
none_below (suc n) test none = ap (λ b. b || some_below n test) (none n) ∙ none_below n test none

some_below-or : (n : ℕ) (f g : ℕ → Bool) → some_below n (λ k. f k || g k) ≡ (some_below n f || some_below n g)
some_below-or zero f g = refl
some_below-or (suc n) f g = ap (λ b. (f n || g n) || b) (some_below-or n f g) ∙ swap_or (f n) (g n) (some_below n f) (some_below n g)

some_below-and : (n : ℕ) (a : Bool) (f : ℕ → Bool) → some_below n (λ k. a && f k) ≡ (a && some_below n f)
some_below-and n true f = refl
some_below-and n false f = none_below n (λ k. false && f k) (λ k. refl)

-- only one number is equal to k
past_one : (n k : ℕ) (test : ℕ → Bool) → n ≤ k → some_below n (λ y. (k == y) && test y) ≡ false
past_one zero k test le = refl
past_one (suc n) k test le =
    ap (λ b. (b && test n) || some_below n (λ y. (k == y) && test y)) (ne_eqb k n (λ e. omega arith)) ∙ past_one n k test (omega arith)

pub some_below-one : (n k : ℕ) (test : ℕ → Bool) → k < n → some_below n (λ y. (k == y) && test y) ≡ test k
some_below-one zero k test lt = absurd (omega arith)
some_below-one (suc n) k test lt = elim (cases_eq k n) [
  | inl same ↦
      ap (λ b. (b && test n) || some_below n (λ y. (k == y) && test y)) (eq-eqb k n same)
      ∙ (ap (λ b. test n || b) (past_one n k test (omega arith)) ∙ (or_none (test n) ∙ ap test (sym same)))
  | inr ne ↦
      ap (λ b. (b && test n) || some_below n (λ y. (k == y) && test y)) (ne_eqb k n ne) ∙ some_below-one n k test (omega arith)
]

not_or : (a b : Bool) → (not (not a) && not b) ≡ not (not a || b)
not_or true b = refl
not_or false b = refl

each_below-not : (n : ℕ) (test : ℕ → Bool) → each_below n test ≡ not (some_below n (λ k. not (test k)))
each_below-not zero test = refl
each_below-not (suc n) test = ap (λ b. test n && b) (each_below-not n test) ∙ and-not (test n) (some_below n (λ k. not (test k)))

not_implies : (a b : Bool) → not (implies a b) ≡ (a && not b)
not_implies true b = refl
not_implies false b = refl

spread : (a e l t : Bool) → (((a && e) || l) && t) ≡ ((a && (e && t)) || (l && t))
spread true true true t = or_same t
  where
    or_same : (t : Bool) → t ≡ (t || t)
    or_same true = refl
    or_same false = refl
spread true true false t = sym (or_none t)
spread true false l t = refl
spread false e l t = refl

-- whether x and y are a pair of the list
abbrev pub paired : List (ℕ × ℕ) → ℕ → ℕ → Bool
paired ps x y = list_any (λ p. (p.0 == x) && (p.1 == y)) ps

abbrev pub ends_fit : ℕ → List (ℕ × ℕ) → Bool
ends_fit n ps = list_all (λ p. nat_lt p.0 n && nat_lt p.1 n) ps

-- some pair that begins with x ends in the test, exactly where some element below n does that is paired with x
pub any_successor : (n : ℕ) (ps : List (ℕ × ℕ)) → ends_fit n ps ≡ true → (x : ℕ) (test : ℕ → Bool)
    → list_any (λ p. (p.0 == x) && test p.1) ps ≡ some_below n (λ y. paired ps x y && test y)
any_successor n [] fit x test = sym (none_below n (λ y. false && test y) (λ y. refl))
any_successor n (p ∷ ps) fit x test =
    let parts = and_parts (nat_lt p.0 n && nat_lt p.1 n) (ends_fit n ps) fit in
    let below : p.1 < n = ltb-true p.1 n (and_parts (nat_lt p.0 n) (nat_lt p.1 n) parts.0).1 in
    let a = p.0 == x in
    let f : ℕ → Bool = λ y. (p.1 == y) && test y in
    let g : ℕ → Bool = λ y. paired ps x y && test y in
    let split : some_below n (λ y. paired (p ∷ ps) x y && test y) ≡ ((a && some_below n f) || some_below n g) =
    ap (some_below n) (λ j y. spread a (p.1 == y) (paired ps x y) (test y) j)
    ∙ (some_below-or n (λ y. a && f y) g ∙ ap (λ b. b || some_below n g) (some_below-and n a f)) in
    ap (λ b. (a && test p.1) || b) (any_successor n ps parts.1 x test)
    ∙ (ap (λ b. (a && b) || some_below n g) (sym (some_below-one n p.1 test below)) ∙ sym split)

pub each_successor : (n : ℕ) (ps : List (ℕ × ℕ)) → ends_fit n ps ≡ true → (x : ℕ) (test : ℕ → Bool)
    → list_all (λ p. implies (p.0 == x) (test p.1)) ps ≡ each_below n (λ y. implies (paired ps x y) (test y))
each_successor n ps fit x test =
    list_all-not (λ p. implies (p.0 == x) (test p.1)) ps
    ∙ (ap not (ap (λ t. list_any t ps) (λ j p. not_implies (p.0 == x) (test p.1) j)
    ∙ (any_successor n ps fit x (λ y. not (test y))
    ∙ ap (some_below n) (λ j y. sym (not_implies (paired ps x y) (test y)) j)))
    ∙ sym (each_below-not n (λ y. implies (paired ps x y) (test y))))

-- the pairs of a role, and the role
list_any-map : {X Y : Type 0} (f : X → Y) (test : Y → Bool) (xs : List X) → list_any test (map f xs) ≡ list_any (λ x. test (f x)) xs
list_any-map f test [] = refl
list_any-map f test (x ∷ xs) = ap (λ b. test (f x) || b) (list_any-map f test xs)

paired_swapped : (ps : List (ℕ × ℕ)) (x y : ℕ) → paired (map swapped ps) x y ≡ paired ps y x
paired_swapped ps x y =
    list_any-map swapped (λ p. (p.0 == x) && (p.1 == y)) ps ∙ ap (λ t. list_any t ps) (λ j p. and_comm (p.1 == x) (p.0 == y) j)

fit_swapped : (n : ℕ) (ps : List (ℕ × ℕ)) → ends_fit n ps ≡ true → ends_fit n (map swapped ps) ≡ true
fit_swapped n ps fit =
    list_all-map (λ (p : ℕ × ℕ). nat_lt p.0 n && nat_lt p.1 n) swapped ps
    ∙ (ap (λ t. list_all t ps) (λ j p. and_comm (nat_lt p.1 n) (nat_lt p.0 n) j) ∙ fit)

along_by : (b : Bool) (ps : List (ℕ × ℕ)) (x y : ℕ) → paired (if b then map swapped ps else ps) x y ≡ (if b then paired ps y x else paired ps x y)
along_by true ps x y = paired_swapped ps x y
along_by false ps x y = refl

pub paired_along : (i : Interpretation) (role : Role) (x y : ℕ) → paired (pairs_along role i.relations) x y ≡ relates i role x y
paired_along i role x y = along_by role.inverted (pairs_of i role.id) x y

-- what holds of each list of a map holds of the one that is looked up, or of none
module _ {X : Type 0} (fits : List X → Bool) (none : fits [] ≡ true) where
  fit_either : (b : Bool) (xs : List X) (other : Option (List X)) → fits xs ≡ true → fits (unwrap_or other []) ≡ true
      → fits (unwrap_or (cond b (Some xs) other) []) ≡ true
  fit_either true xs other here there = here
  fit_either false xs other here there = there

  fit_lookup : (test : WordId → Bool) (es : List (WordId × List X)) → list_all (λ e. fits e.1) es ≡ true → fits (unwrap_or (lookup test es) []) ≡ true
  fit_lookup test [] fit = none
  fit_lookup test (e ∷ es) fit =
      let parts = and_parts (fits e.1) (list_all (λ f. fits f.1) es) fit in
      fit_either (test e.0) e.1 (lookup test es) parts.0 (fit_lookup test es parts.1)

-- the parts of the test of an interpretation
seven : (a b c d e f g : Bool) → (a && b && c && d && e && f && g) ≡ true
    → (a ≡ true) × (b ≡ true) × (c ≡ true) × (d ≡ true) × (e ≡ true) × (f ≡ true) × (g ≡ true)
seven true true true true true true true h = (refl, refl, refl, refl, refl, refl, refl)
seven true true true true true true false h = cc
seven true true true true true false g h = cc
seven true true true true false f g h = cc
seven true true true false e f g h = cc
seven true true false d e f g h = cc
seven true false c d e f g h = cc
seven false b c d e f g h = cc

pub parts_of : (i : Interpretation) → is_interpretation i ≡ true
    → (nat_lt 0 i.size ≡ true) × (words_rise i.names ≡ true) × (words_rise i.classes ≡ true) × (words_rise i.relations ≡ true)
    × (list_all (λ e. nat_lt e.1 i.size) i.names ≡ true) × (list_all (λ e. list_all (λ x. nat_lt x i.size) e.1) i.classes ≡ true)
    × (list_all (λ e. ends_fit i.size e.1) i.relations ≡ true)
parts_of i h = seven (nat_lt 0 i.size) (words_rise i.names) (words_rise i.classes) (words_rise i.relations) (list_all (λ e. nat_lt e.1 i.size) i.names)
    (list_all (λ e. list_all (λ x. nat_lt x i.size) e.1) i.classes) (list_all (λ e. ends_fit i.size e.1) i.relations) h

along_fits : (b : Bool) (n : ℕ) (ps : List (ℕ × ℕ)) → ends_fit n ps ≡ true → ends_fit n (if b then map swapped ps else ps) ≡ true
along_fits true n ps fit = fit_swapped n ps fit
along_fits false n ps fit = fit

fits_along : (i : Interpretation) → is_interpretation i ≡ true → (role : Role) → ends_fit i.size (pairs_along role i.relations) ≡ true
fits_along i h role = along_fits role.inverted i.size (pairs_of i role.id) (fit_lookup (ends_fit i.size) refl (is_word role.id) i.relations (parts_of i h).6)

pub some_along : (i : Interpretation) → is_interpretation i ≡ true → (role : Role) (x : ℕ) (test : ℕ → Bool)
    → list_any (λ p. (p.0 == x) && test p.1) (pairs_along role i.relations) ≡ some_below i.size (λ y. relates i role x y && test y)
some_along i h role x test =
    any_successor i.size (pairs_along role i.relations) (fits_along i h role) x test
    ∙ ap (some_below i.size) (λ j y. paired_along i role x y j && test y)

pub each_along : (i : Interpretation) → is_interpretation i ≡ true → (role : Role) (x : ℕ) (test : ℕ → Bool)
    → list_all (λ p. implies (p.0 == x) (test p.1)) (pairs_along role i.relations) ≡ each_below i.size (λ y. implies (relates i role x y) (test y))
each_along i h role x test =
    each_successor i.size (pairs_along role i.relations) (fits_along i h role) x test
    ∙ ap (each_below i.size) (λ j y. implies (paired_along i role x y j) (test y))

-- a role that is not inverted has the pairs of its word
pub straight : (role : Role) (relations : List (WordId × List (ℕ × ℕ))) (ps : List (ℕ × ℕ)) → role.inverted ≡ false
    → Some ps ≡ lookup (is_word role.id) relations → ps ≡ pairs_along role relations
straight role relations ps up found =
    let pairs : List (ℕ × ℕ) = unwrap_or (lookup (is_word role.id) relations) [] in
    ap (λ o. unwrap_or o []) found ∙ sym (ap (λ b. if b then map swapped pairs else pairs) up)

-- a test of each element of a class word is one of the elements that are in the word
pub each_element : (i : Interpretation) → is_interpretation i ≡ true → (word : WordId) (test : ℕ → Bool)
    → list_all test (elements_of i word) ≡ each_below i.size (λ x. implies (has_element i word x) (test x))
each_element i h word test =
    let n = i.size in
    let xs = elements_of i word in
    let pair : ℕ → ℕ × ℕ = λ x. (0, x) in
    let fit : list_all (λ x. nat_lt x n) xs ≡ true = fit_lookup (list_all (λ x. nat_lt x n)) refl (is_word word) i.classes (parts_of i h).5 in
    let fits : ends_fit n (map pair xs) ≡ true =
    list_all-map (λ (p : ℕ × ℕ). nat_lt p.0 n && nat_lt p.1 n) pair xs
    ∙ (ap (λ b. list_all (λ x. b && nat_lt x n) xs) (parts_of i h).0 ∙ fit) in
    sym (list_all-map (λ (p : ℕ × ℕ). implies (p.0 == 0) (test p.1)) pair xs)
    ∙ (each_successor n (map pair xs) fits 0 test
    ∙ ap (each_below n) (λ t y. implies (list_any-map pair (λ p. (p.0 == 0) && (p.1 == y)) xs t) (test y)))
