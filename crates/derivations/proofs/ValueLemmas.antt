-- The values to be tried for a feature are all its values.
use Rattle.std.proofs.Common.{◌≡◌, ℕ, zero, suc, ◌+◌, ◌<◌, ◌≤◌, List, [], ◌∷◌, ◌++◌, length, Bool, true, false, not, ◌&&◌, ◌||◌, ◌⊎◌, inl, inr, refl, sym, ap, subst, ◌∙◌, arith, nat_lt, nat_le}
use Rattle.std.specs.Prelude.{if◌then◌else◌, ◌==◌}
use Rattle.std.specs.List.{list_all, list_any, range_with_len}
use Rattle.std.proofs.lemmas.Bool.Decides.{nat_tests}
use Rattle.std.proofs.lemmas.Bool.{eqb-true, or_cases}
use Rattle.wiki_base.proofs.BoolLaws.{and_first, and_second}
use Rattle.derivation_trees.proofs.ValueLemmas.{same_value_is}
use Rattle.codeco_terms.specs.declared.values.Value.{Value}
use Rattle.codeco_terms.specs.declared.values.Value.TheVariants.{Atom, Word, Pos}
use Rattle.codeco_terms.specs.declared.categories.Ground.{Ground}
use Rattle.codeco_terms.specs.declared.declarations.Declared.{Declared}
use Rattle.codeco_terms.specs.declared.declarations.Declared.TheVariants as declared
use Rattle.codeco_terms.specs.Values.{same_value}
use Rattle.scopes.specs.Resolution.{has_value}
use Rattle.codeco_checked.specs.Numbering.{has}
use Rattle.codeco_checked.specs.Faults.{values_of}
use Rattle.derivation_trees.specs.Settings.{Setting, has_word, is_value, fits_feature}
use Rattle.derivation_trees.specs.Derives.{same_where_both}
use Rattle.derivations.specs.Enumeration.{with_value, with_given, with_words, with_all_words, declared_values, feature_values, has_feature}
use Rattle.derivations.proofs.Members.{Among, among_left, among_right, among_map}

number_turned : (x y : ℕ) → (x == y) ≡ true → (y == x) ≡ true
number_turned x y h = grind (arith, nat_tests)

add_keeps : (vs : List Value) (w v : Value) → Among vs v → Among (with_value vs w) v
add_keeps vs w v h = by (list_any (same_value w) vs)
  where
    by : (b : Bool) → Among (if b then vs else vs ++ w ∷ []) v
    by true = h
    by false = among_left vs (w ∷ []) v h

any_same : (vs : List Value) (w : Value) → list_any (same_value w) vs ≡ true → Among vs w
any_same [] w h = cc
any_same (v ∷ vs) w h =
    elim (or_cases (same_value w v) (list_any (same_value w) vs) h) [ inl e ↦ inl (same_value_is w v e) | inr k ↦ inr (any_same vs w k) ]

add_has : (vs : List Value) (w : Value) → Among (with_value vs w) w
add_has vs w = by (list_any (same_value w) vs) refl
  where
    by : (b : Bool) → list_any (same_value w) vs ≡ b → Among (if b then vs else vs ++ w ∷ []) w
    by true e = any_same vs w e
    by false e = among_right vs (w ∷ []) w (inl refl)

given_keeps : (vs : List Value) (ps : List (ℕ × Value)) (f : ℕ) (v : Value) → Among vs v → Among (with_given vs ps f) v
given_keeps vs [] f v h = h
given_keeps vs (p ∷ ps) f v h = given_keeps (if p.0 == f then with_value vs p.1 else vs) ps f v (by (p.0 == f))
  where
    by : (b : Bool) → Among (if b then with_value vs p.1 else vs) v
    by true = add_keeps vs p.1 v h
    by false = h

given_here : (vs : List Value) (p : ℕ × Value) (f : ℕ) (v : Value) → (p.0 == f) ≡ true → p.1 ≡ v → Among (if p.0 == f then with_value vs p.1 else vs) v
given_here vs p f v e same =
    subst (λ b. Among (if b then with_value vs p.1 else vs) v) (sym e) (subst (λ w. Among (with_value vs p.1) w) same (add_has vs p.1))

given_has : (vs : List Value) (ps : List (ℕ × Value)) (f : ℕ) (v : Value) → has_value ps (f, v) ≡ true → Among (with_given vs ps f) v
given_has vs [] f v h = cc
given_has vs (p ∷ ps) f v h =
    elim (or_cases ((p.0 == f) && same_value p.1 v) (has_value ps (f, v)) h) [
      | inl e ↦ given_keeps (if p.0 == f then with_value vs p.1 else vs) ps f v
          (given_here vs p f v (and_first (p.0 == f) (same_value p.1 v) e) (same_value_is p.1 v (and_second (p.0 == f) (same_value p.1 v) e)))
      | inr k ↦ given_has (if p.0 == f then with_value vs p.1 else vs) ps f v k
    ]

same_where : (f : ℕ) (v : Value) (p : ℕ × Value) → (p.0 == f) ≡ true → same_where_both (f, v) p ≡ true → p.1 ≡ v
same_where f v p e h =
    sym (same_value_is v p.1 (subst (λ b. (not b || same_value v p.1) ≡ true) (number_turned p.0 f e) h))

-- a feature that a category fixes has its value among those that are given
pub given_fixed : (vs : List Value) (ps : List (ℕ × Value)) (f : ℕ) (v : Value) → has_feature ps f ≡ true → list_all (same_where_both (f, v)) ps ≡ true
    → Among (with_given vs ps f) v
given_fixed vs [] f v h all = cc
given_fixed vs (p ∷ ps) f v h all =
    elim (or_cases (p.0 == f) (has_feature ps f) h) [
      | inl e ↦ given_keeps (if p.0 == f then with_value vs p.1 else vs) ps f v
          (given_here vs p f v e (same_where f v p e (and_first (same_where_both (f, v) p) (list_all (same_where_both (f, v)) ps) all)))
      | inr k ↦ given_fixed (if p.0 == f then with_value vs p.1 else vs) ps f v k
          (and_second (same_where_both (f, v) p) (list_all (same_where_both (f, v)) ps) all)
    ]

words_keep : (vs : List Value) (rs : List Ground) (v : Value) → Among vs v → Among (with_words vs rs) v
words_keep vs [] v h = h
words_keep vs (r ∷ rs) v h = words_keep (with_given vs r.vals 3) rs v (given_keeps vs r.vals 3 v h)

words_has : (vs : List Value) (rs : List Ground) (v : Value) → list_any (λ reading. has_value reading.vals (3, v)) rs ≡ true → Among (with_words vs rs) v
words_has vs [] v h = cc
words_has vs (r ∷ rs) v h =
    elim (or_cases (has_value r.vals (3, v)) (list_any (λ reading. has_value reading.vals (3, v)) rs) h) [
      | inl e ↦ words_keep (with_given vs r.vals 3) rs v (given_has vs r.vals 3 v e)
      | inr k ↦ words_has (with_given vs r.vals 3) rs v k
    ]

all_words_keep : (vs : List Value) (all : List (List Ground)) (v : Value) → Among vs v → Among (with_all_words vs all) v
all_words_keep vs [] v h = h
all_words_keep vs (rs ∷ all) v h = all_words_keep (with_words vs rs) all v (words_keep vs rs v h)

all_words_has : (vs : List Value) (all : List (List Ground)) (v : Value)
    → list_any (λ readings. list_any (λ reading. has_value reading.vals (3, v)) readings) all ≡ true → Among (with_all_words vs all) v
all_words_has vs [] v h = cc
all_words_has vs (rs ∷ all) v h =
    elim (or_cases (list_any (λ reading. has_value reading.vals (3, v)) rs)
    (list_any (λ readings. list_any (λ reading. has_value reading.vals (3, v)) readings) all) h) [
      | inl e ↦ all_words_keep (with_words vs rs) all v (words_has vs rs v e)
      | inr k ↦ all_words_has (with_words vs rs) all v k
    ]

above_where : (a x : ℕ) → nat_lt a x ≡ true → a + 1 ≤ x
above_where a x h = grind (arith, nat_tests)

same_unless_above : (a x : ℕ) → nat_lt a x ≡ false → a ≤ x → x ≡ a
same_unless_above a x h le = grind (arith, nat_tests)

pub range_has : (n a x : ℕ) → a ≤ x → x < a + n → Among (range_with_len a n) x
range_has zero a x le lt = absurd (omega arith)
range_has (suc n) a x le lt = by (λ above. range_has n (a + 1) x above (omega arith)) (nat_lt a x) refl
  where
    by : (a + 1 ≤ x → Among (range_with_len (a + 1) n) x) → (b : Bool) → nat_lt a x ≡ b → Among (range_with_len a (suc n)) x
    by later true e = inr (later (above_where a x e))
    by later false e = inl (same_unless_above a x e le)

pub number_has : (ns : List ℕ) (n : ℕ) → has ns n ≡ true → Among ns n
number_has [] n h = cc
number_has (m ∷ ms) n h = elim (or_cases (n == m) (has ms n) h) [ inl e ↦ inl (eqb-true n m e) | inr k ↦ inr (number_has ms n k) ]

at_most : (p n : ℕ) → nat_le p n ≡ true → p < 0 + (n + 1)
at_most p n h = grind (arith, nat_tests)

pub word_zero : (n : ℕ) → (n == 0) ≡ true → n ≡ 0
word_zero n h = eqb-true n 0 h

-- each value of what is declared is among those that are tried
pub value_has : (s : Setting) (d : Declared) (v : Value) → is_value s d v ≡ true → Among (declared_values s d) v
value_has s declared.Words (Word w) h =
    elim (or_cases (w.0 == 0) (has_word s (Word w)) h) [
      | inl e ↦ all_words_keep (Word (record { 0 = 0 }) ∷ []) s.readings (Word w) (inl (ap (λ n. Word (record { 0 = n })) (word_zero w.0 e)))
      | inr k ↦ all_words_has (Word (record { 0 = 0 }) ∷ []) s.readings (Word w) k
    ]
value_has s declared.Positions (Pos p) h =
    among_map (λ q. Pos q) (range_with_len 0 (length s.tokens + 1)) p (range_has (length s.tokens + 1) 0 p (omega arith) (at_most p (length s.tokens) h))
value_has s (declared.Atoms atoms) (Atom a) h = among_map (λ b. Atom b) atoms a (number_has atoms a h)
value_has s d v h = cc

pub feature_has : (s : Setting) (f : ℕ) (v : Value) → fits_feature s f v ≡ true → Among (feature_values s f) v
feature_has s f v h = value_has s (values_of s.grammar f) v h
