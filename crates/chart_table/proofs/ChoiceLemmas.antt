-- An instance gives each variable one of its choices, and is what it gives to the rule's variables.
use Rattle.std.proofs.Common.{◌≡◌, ℕ, suc, zero, ◌+◌, ◌-◌, ◌<◌, ◌≤◌, List, [], ◌∷◌, ◌++◌, Bool, true, false, ◌&&◌, ◌||◌, map, filter, length, drop, Option, Some, None, refl, sym, ap, ◌∙◌, subst, arith, cond, ◌⊎◌, inl, inr, nat_lt, length-append, length-drop}
use Rattle.std.proofs.lemmas.List.{length-map}
use Rattle.std.proofs.Math.Seq.{drop-nil}
use Rattle.std.specs.Prelude.{if◌then◌else◌, ◌==◌, not, unwrap_or, slice_get}
use Rattle.std.specs.List.{list_any, list_all, flat_map, range_with_len}
use Rattle.std.proofs.lemmas.Bool.Decides.{nat_tests}
use Rattle.std.proofs.lemmas.Bool.{leb-true, ltb-true, ltb-false, eqb-true}
use Rattle.std.proofs.lemmas.List.Concat.{flat_map-append}
use Rattle.std.proofs.lemmas.List.FromFn.{length-range_with_len}
use Rattle.wiki_base.proofs.NumberLaws.{eqb_comm, lt-eqb as differs, eqb_refl}
use Rattle.chart_table.proofs.OneOfLemmas.{one_left, one_right}
use Rattle.codeco_terms.specs.declared.values.Value.{Value}
use Rattle.codeco_terms.specs.declared.values.Value.TheVariants.{Atom, Word, Pos}
use Rattle.codeco_terms.specs.declared.values.Term.{Term}
use Rattle.codeco_terms.specs.declared.values.Term.TheVariants.{Val, Var}
use Rattle.codeco_terms.specs.declared.categories.Category.{Category}
use Rattle.codeco_terms.specs.declared.categories.Pattern.{Pattern}
use Rattle.codeco_terms.specs.declared.categories.Ground.{Ground}
use Rattle.codeco_terms.specs.declared.declarations.Declared.{Declared}
use Rattle.codeco_terms.specs.declared.declarations.Declared.TheVariants as declared
use Rattle.codeco_terms.specs.declared.elements.Element.{Element}
use Rattle.codeco_terms.specs.declared.elements.Element.TheVariants.{Terminal, Preterminal, Sub, Position, Opener, Forward, Strong, Back, NoBack}
use Rattle.codeco_terms.specs.declared.rules.Rule.{Rule}
use Rattle.codeco_checked.specs.Numbering.{has}
use Rattle.codeco_checked.specs.Faults.{values_of}
use Rattle.codeco_checked.specs.Occurrences.{positions, mentions, whole, with_taken, rule_features, rule_variables, category_variables, element_variables, term_variables}
use Rattle.scopes.specs.Resolution.{has_value}
use Rattle.derivation_trees.specs.Settings.{Setting, has_word, is_value, fits_feature}
use Rattle.derivation_trees.specs.Instances.{looked_up, value_under, same_numbers, term_fits, own_fit, own_values, written_variables, variables_of, rule_own_features, is_instance}
use Rattle.derivation_trees.specs.Derives.{first_value}
use Rattle.derivation_trees.proofs.OccurrenceLemmas.{all_append, with_taken_all, has_append, has_flat_map_cons}
use Rattle.chart_table.specs.Branches.{OneOf, values_at, marked}
use Rattle.chart_table.specs.Choices.{pattern_terms, element_terms, terms_of, stands_for, first_feature, words_of, all_positions, declared_values, feature_values, atom_value, own_choices, variable_choices, choices_in}
use Rattle.chart_table.proofs.PassLemmas.{both_true}
use Rattle.chart_table.proofs.BranchLemmas.{Binds, Chosen, values_at_to}
use Rattle.chart_table.specs.Ends.{OwnFrom, values_of_all}

-- values of features

words_one : (readings : List Ground) (word : Value) → list_any (λ r. has_value r.vals (3, word)) readings ≡ true → OneOf (words_of readings) word
words_one [] word h = absurd (cc)
words_one (r ∷ rs) word h = at (words_one rs word) (has_value r.vals (3, word)) refl h
  where
    at : (list_any (λ r. has_value r.vals (3, word)) rs ≡ true → OneOf (words_of rs) word) → (b : Bool) → has_value r.vals (3, word) ≡ b
        → (b || list_any (λ r. has_value r.vals (3, word)) rs) ≡ true → OneOf (values_at r.vals 3 ++ words_of rs) word
    at rest true e h = one_left word (values_at r.vals 3) (words_of rs) (values_at_to r.vals 3 word e)
    at rest false e h = one_right word (values_at r.vals 3) (words_of rs) (rest h)

words_all : (all : List (List Ground)) (word : Value) → list_any (λ readings. list_any (λ r. has_value r.vals (3, word)) readings) all ≡ true
    → OneOf (flat_map words_of all) word
words_all [] word h = absurd (cc)
words_all (rs ∷ all) word h = at (words_all all word) (list_any (λ r. has_value r.vals (3, word)) rs) refl h
  where
    at : (list_any (λ readings. list_any (λ r. has_value r.vals (3, word)) readings) all ≡ true → OneOf (flat_map words_of all) word) → (b : Bool)
        → list_any (λ r. has_value r.vals (3, word)) rs ≡ b → (b || list_any (λ readings. list_any (λ r. has_value r.vals (3, word)) readings) all) ≡ true
        → OneOf (words_of rs ++ flat_map words_of all) word
    at rest true e h = one_left word (words_of rs) (flat_map words_of all) (words_one rs word e)
    at rest false e h = one_right word (words_of rs) (flat_map words_of all) (rest h)

range_one : (p a n : ℕ) → a ≤ p → p < a + n → OneOf (map Pos (range_with_len a n)) (Pos p)
range_one p a zero le lt = absurd (omega arith)
range_one p a (suc n) le lt = at (p == a) refl (λ e. range_one p (a + 1) n (differs e) (omega arith))
  where
    differs : (p == a) ≡ false → (a + 1) ≤ p
    differs e = grind (arith, nat_tests)

    at : (b : Bool) → (p == a) ≡ b → ((p == a) ≡ false → OneOf (map Pos (range_with_len (a + 1) n)) (Pos p))
        → (Pos a ≡ Pos p) ⊎ OneOf (map Pos (range_with_len (a + 1) n)) (Pos p)
    at true e rest = inl (ap Pos (sym (eqb-true p a e)))
    at false e rest = inr (rest e)

atoms_one : (atoms : List ℕ) (a : ℕ) → has atoms a ≡ true → OneOf (map atom_value atoms) (Atom a)
atoms_one [] a h = absurd (cc)
atoms_one (b ∷ bs) a h = at (atoms_one bs a) (a == b) refl h
  where
    at : (has bs a ≡ true → OneOf (map atom_value bs) (Atom a)) → (t : Bool) → (a == b) ≡ t → (t || has bs a) ≡ true
        → (Atom b ≡ Atom a) ⊎ OneOf (map atom_value bs) (Atom a)
    at rest true e h = inl (ap Atom (sym (eqb-true a b e)))
    at rest false e h = inr (rest h)

or_cases : {P : Type 0} (a b : Bool) → (a || b) ≡ true → (a ≡ true → P) → (b ≡ true → P) → P
or_cases true b h f g = f refl
or_cases false b h f g = g h

positions_one : (s : Setting) (v : Value) → is_value s declared.Positions v ≡ true → OneOf (all_positions s) v
positions_one s (Atom a) h = absurd (cc)
positions_one s (Word w) h = absurd (cc)
positions_one s (Pos p) h = let le = leb-true p (length s.tokens) h in range_one p 0 (length s.tokens + 1) (omega arith) (omega arith)

declared_one : (s : Setting) (d : Declared) (v : Value) → is_value s d v ≡ true → OneOf (declared_values s d) v
declared_one s declared.Undeclared v h = absurd (cc)
declared_one s declared.Words (Atom a) h = absurd (cc)
declared_one s declared.Words (Word w) h =
    or_cases (w.0 == 0) (has_word s (Word w)) h (λ e. inl (ap (λ n. Word (record { 0 = n })) (sym (eqb-true w.0 0 e))))
    (λ e. inr (words_all s.readings (Word w) e))
declared_one s declared.Words (Pos p) h = absurd (cc)
declared_one s declared.Positions v h = positions_one s v h
declared_one s (declared.Atoms atoms) (Atom a) h = atoms_one atoms a h
declared_one s (declared.Atoms atoms) (Word w) h = absurd (cc)
declared_one s (declared.Atoms atoms) (Pos p) h = absurd (cc)

-- terms of a rule

patterns_terms : (t : ℕ × Term → Bool) (ps : List Pattern) → list_all t (flat_map (λ c. c.feats) (map whole ps)) ≡ list_all t (flat_map pattern_terms ps)
patterns_terms t [] = refl
patterns_terms t (p ∷ ps) =
    all_append t (with_taken p.cat.feats p.taken) (flat_map (λ c. c.feats) (map whole ps))
    ∙ ap (λ b. b && list_all t (flat_map (λ c. c.feats) (map whole ps)))
    (with_taken_all t p.cat.feats p.taken ∙ ap (λ b. list_all t p.cat.feats && b) (sym (all_marked p.taken))
    ∙ sym (all_append t p.cat.feats (map marked p.taken))) ∙ ap (λ b. list_all t (pattern_terms p) && b) (patterns_terms t ps)
    ∙ sym (all_append t (pattern_terms p) (flat_map pattern_terms ps))
  where
    all_marked : (taken : List (ℕ × ℕ)) → list_all t (map marked taken) ≡ list_all (λ u. t (u.0, Var u.1)) taken
    all_marked [] = refl
    all_marked (u ∷ us) = ap (λ b. t (u.0, Var u.1) && b) (all_marked us)

all_nil : (t : ℕ × Term → Bool) (xs : List (ℕ × Term)) → list_all t (xs ++ []) ≡ list_all t xs
all_nil t xs = ap (list_all t) (append_nothing xs)
  where
    append_nothing : (xs : List (ℕ × Term)) → xs ++ [] ≡ xs
    append_nothing [] = refl
    append_nothing (x ∷ xs) = ap (λ ys. x ∷ ys) (append_nothing xs)

element_all : (t : ℕ × Term → Bool) (e : Element) → list_all t (flat_map (λ c. c.feats) (mentions e)) ≡ list_all t (element_terms e)
element_all t (Terminal n) = refl
element_all t (Preterminal c) = all_nil t c.feats
element_all t (Sub c) = all_nil t c.feats
element_all t (Position x) = refl
element_all t Opener = refl
element_all t (Forward c) = all_nil t c.feats
element_all t (Strong c) = all_nil t c.feats
element_all t (Back ps ns) =
    ap (list_all t) (flat_map-append (λ (c : Category). c.feats) (map whole ps) (map whole ns))
    ∙ all_append t (flat_map (λ c. c.feats) (map whole ps)) (flat_map (λ c. c.feats) (map whole ns))
    ∙ ap (λ b. b && list_all t (flat_map (λ c. c.feats) (map whole ns))) (patterns_terms t ps)
    ∙ ap (λ b. list_all t (flat_map pattern_terms ps) && b) (patterns_terms t ns)
    ∙ sym (all_append t (flat_map pattern_terms ps) (flat_map pattern_terms ns))
element_all t (NoBack ps) = patterns_terms t ps

body_all : (t : ℕ × Term → Bool) (body : List Element)
    → list_all t (flat_map (λ c. c.feats) (flat_map mentions body)) ≡ list_all t (flat_map element_terms body)
body_all t [] = refl
body_all t (e ∷ es) =
    ap (list_all t) (flat_map-append (λ (c : Category). c.feats) (mentions e) (flat_map mentions es))
    ∙ all_append t (flat_map (λ c. c.feats) (mentions e)) (flat_map (λ c. c.feats) (flat_map mentions es))
    ∙ ap (λ b. b && list_all t (flat_map (λ c. c.feats) (flat_map mentions es))) (element_all t e)
    ∙ ap (λ b. list_all t (element_terms e) && b) (body_all t es) ∙ sym (all_append t (element_terms e) (flat_map element_terms es))

-- what holds of each feature that a rule writes holds of its terms
pub terms_all : (t : ℕ × Term → Bool) (rule : Rule) → list_all t (rule_features rule) ≡ list_all t (terms_of rule)
terms_all t rule =
    all_append t rule.head.feats (flat_map (λ c. c.feats) (flat_map mentions rule.body)) ∙ ap (λ b. list_all t rule.head.feats && b) (body_all t rule.body)
    ∙ sym (all_append t rule.head.feats (flat_map element_terms rule.body))

-- a variable that is found nowhere

-- the variable isn't the term
abbrev away : ℕ → ℕ × Term → Bool
away x q = not (stands_for q.1 x)

nowhere : (terms : List (ℕ × Term)) (x : ℕ) → first_feature terms x ≡ None → list_all (away x) terms ≡ true
nowhere [] x h = refl
nowhere (q ∷ terms) x h = at (nowhere terms x) (stands_for q.1 x) h
  where
    at : (first_feature terms x ≡ None → list_all (away x) terms ≡ true) → (b : Bool) → (if b then Some q.0 else first_feature terms x) ≡ None
        → (not b && list_all (away x) terms) ≡ true
    at rest true h = absurd (cc)
    at rest false h = rest h

term_away : (term : Term) (x : ℕ) → has (term_variables term) x ≡ stands_for term x
term_away (Val v) x = refl
term_away (Var y) x = or_nothing (x == y) ∙ eqb_comm x y
  where
    or_nothing : (b : Bool) → (b || false) ≡ b
    or_nothing true = refl
    or_nothing false = refl

feats_away : (feats : List (ℕ × Term)) (x : ℕ) → has (flat_map (λ f. term_variables f.1) feats) x ≡ not (list_all (away x) feats)
feats_away [] x = refl
feats_away (q ∷ feats) x =
    has_flat_map_cons (λ (f : ℕ × Term). term_variables f.1) q feats x ∙ ap (λ b. b || has (flat_map (λ f. term_variables f.1) feats) x) (term_away q.1 x)
    ∙ ap (λ b. stands_for q.1 x || b) (feats_away feats x) ∙ turn (stands_for q.1 x) (list_all (away x) feats)
  where
    turn : (a b : Bool) → (a || not b) ≡ not (not a && b)
    turn true b = refl
    turn false b = refl

categories_away : (cs : List Category) (x : ℕ) → has (flat_map category_variables cs) x ≡ not (list_all (away x) (flat_map (λ c. c.feats) cs))
categories_away [] x = refl
categories_away (c ∷ cs) x =
    has_append (category_variables c) (flat_map category_variables cs) x ∙ ap (λ b. b || has (flat_map category_variables cs) x) (feats_away c.feats x)
    ∙ ap (λ b. not (list_all (away x) c.feats) || b) (categories_away cs x)
    ∙ turn (list_all (away x) c.feats) (list_all (away x) (flat_map (λ c. c.feats) cs))
    ∙ ap not (sym (all_append (away x) c.feats (flat_map (λ c. c.feats) cs)))
  where
    turn : (a b : Bool) → (not a || not b) ≡ not (a && b)
    turn true b = refl
    turn false b = refl

split_true : {P : Type 0} (a b c : Bool) → a ≡ (b && c) → a ≡ true → (b ≡ true → c ≡ true → P) → P
split_true a b c e h k = both_true b c (sym e ∙ h) k

body_away : (body : List Element) (x : ℕ) → list_all (away x) (flat_map element_terms body) ≡ true → has (flat_map positions body) x ≡ false
    → has (flat_map element_variables body) x ≡ false
body_away [] x h p = refl
body_away (e ∷ es) x h p =
    split_true _ _ _ (all_append (away x) (element_terms e) (flat_map element_terms es)) h (λ one rest.
    neither (has (positions e) x) (has (flat_map positions es) x) (sym (has_append (positions e) (flat_map positions es) x) ∙ p) (λ no none_later.
    has_append (element_variables e) (flat_map element_variables es) x
    ∙ ap (λ b. b || has (flat_map element_variables es) x)
    (has_append (positions e) (flat_map category_variables (mentions e)) x ∙ ap (λ b. b || has (flat_map category_variables (mentions e)) x) no
    ∙ categories_away (mentions e) x ∙ ap not (element_all (away x) e ∙ one)) ∙ body_away es x rest none_later))
  where
    neither : {P : Type 0} (a b : Bool) → (a || b) ≡ false → (a ≡ false → b ≡ false → P) → P
    neither true b h k = absurd (cc)
    neither false b h k = k refl h

rule_away : (rule : Rule) (x : ℕ) → first_feature (terms_of rule) x ≡ None → has (flat_map positions rule.body) x ≡ false → has (rule_variables rule) x ≡ false
rule_away rule x h p =
    split_true _ _ _ (all_append (away x) rule.head.feats (flat_map element_terms rule.body)) (nowhere (terms_of rule) x h) (λ one rest.
    has_append (category_variables rule.head) (flat_map element_variables rule.body) x
    ∙ ap (λ b. b || has (flat_map element_variables rule.body) x) (feats_away rule.head.feats x ∙ ap not one) ∙ body_away rule.body x rest p)

-- numbers of variables

-- numbers that stand in order
abbrev pub AllAbove : ℕ → List ℕ → Type 0
AllAbove n [] = Unit {0}
AllAbove n (x ∷ xs) = (n < x) × AllAbove n xs

abbrev pub Increasing : List ℕ → Type 0
Increasing [] = Unit {0}
Increasing (x ∷ xs) = AllAbove x xs × Increasing xs

abbrev pub AllBelow : ℕ → List ℕ → Type 0
AllBelow n [] = Unit {0}
AllBelow n (x ∷ xs) = (x < n) × AllBelow n xs

above_less : (m n : ℕ) (xs : List ℕ) → m < n → AllAbove n xs → AllAbove m xs
above_less m n [] lt h = tt
above_less m n (x ∷ xs) lt h = let a = h.0 in (omega arith, above_less m n xs lt h.1)

range_above : (m a n : ℕ) → m < a → AllAbove m (range_with_len a n)
range_above m a zero lt = tt
range_above m a (suc n) lt = (lt, range_above m (a + 1) n (omega arith))

range_increasing : (a n : ℕ) → Increasing (range_with_len a n)
range_increasing a zero = tt
range_increasing a (suc n) = (range_above a (a + 1) n (omega arith), range_increasing (a + 1) n)

range_below : (m a n : ℕ) → a + n ≤ m → AllBelow m (range_with_len a n)
range_below m a zero le = tt
range_below m a (suc n) le = (omega arith, range_below m (a + 1) n (omega arith))

filter_above : (p : ℕ → Bool) (m : ℕ) (xs : List ℕ) → AllAbove m xs → AllAbove m (filter p xs)
filter_above p m [] h = tt
filter_above p m (x ∷ xs) h = at (filter_above p m xs h.1) (p x)
  where
    at : AllAbove m (filter p xs) → (b : Bool) → AllAbove m (cond b (x ∷ filter p xs) (filter p xs))
    at rest true = (h.0, rest)
    at rest false = rest

filter_increasing : (p : ℕ → Bool) (xs : List ℕ) → Increasing xs → Increasing (filter p xs)
filter_increasing p [] h = tt
filter_increasing p (x ∷ xs) h = at (filter_increasing p xs h.1) (p x)
  where
    at : Increasing (filter p xs) → (b : Bool) → Increasing (cond b (x ∷ filter p xs) (filter p xs))
    at rest true = (filter_above p x xs h.0, rest)
    at rest false = rest

filter_below : (p : ℕ → Bool) (m : ℕ) (xs : List ℕ) → AllBelow m xs → AllBelow m (filter p xs)
filter_below p m [] h = tt
filter_below p m (x ∷ xs) h = at (filter_below p m xs h.1) (p x)
  where
    at : AllBelow m (filter p xs) → (b : Bool) → AllBelow m (cond b (x ∷ filter p xs) (filter p xs))
    at rest true = (h.0, rest)
    at rest false = rest

above_append : (m : ℕ) (xs ys : List ℕ) → AllAbove m xs → AllAbove m ys → AllAbove m (xs ++ ys)
above_append m [] ys h k = k
above_append m (x ∷ xs) ys h k = (h.0, above_append m xs ys h.1 k)

increasing_append : (m : ℕ) (xs ys : List ℕ) → Increasing xs → Increasing ys → AllBelow m xs → ((n : ℕ) → n < m → AllAbove n ys) → Increasing (xs ++ ys)
increasing_append m [] ys h k below above = k
increasing_append m (x ∷ xs) ys h k below above =
    (above_append x xs ys h.0 (above x below.0), increasing_append m xs ys h.1 k below.1 above)

written_below : (rule : Rule) → AllBelow 16 (written_variables rule)
unfolding written_variables
written_below rule = filter_below (has (rule_variables rule)) 16 (range_with_len 0 16) (range_below 16 0 16 (omega arith))

written_increasing : (rule : Rule) → Increasing (written_variables rule)
unfolding written_variables
written_increasing rule = filter_increasing (has (rule_variables rule)) (range_with_len 0 16) (range_increasing 0 16)

variables_increasing : (s : Setting) (rule : Rule) → Increasing (variables_of s.grammar rule)
variables_increasing s rule =
    let n = length (rule_own_features s.grammar rule) in
    increasing_append 16 (written_variables rule) (range_with_len 16 n) (written_increasing rule) (range_increasing 16 n) (written_below rule)
    (λ m lt. range_above m 16 n lt)

same_numbers_is : (xs ys : List ℕ) → same_numbers xs ys ≡ true → xs ≡ ys
same_numbers_is [] [] h = refl
same_numbers_is [] (y ∷ ys) h = absurd (cc)
same_numbers_is (x ∷ xs) [] h = absurd (cc)
same_numbers_is (x ∷ xs) (y ∷ ys) h =
    both_true (x == y) (same_numbers xs ys) h (λ a b. ap (λ z. z ∷ xs) (eqb-true x y a) ∙ ap (λ zs. y ∷ zs) (same_numbers_is xs ys b))

shift_values : (p : ℕ × Value) (v : Binds) (xs : List ℕ) → AllAbove p.0 xs → values_of_all (p ∷ v) xs ≡ values_of_all v xs
shift_values p v [] h = refl
shift_values p v (x ∷ xs) h =
    ap (λ b. (x, unwrap_or (if b then Some p.1 else looked_up v x) (Atom 0)) ∷ values_of_all (p ∷ v) xs) (differs p.0 x h.0)
    ∙ ap (λ zs. (x, value_under v x) ∷ zs) (shift_values p v xs h.1)

pub values_back : (v : Binds) → Increasing (map (λ p. p.0) v) → values_of_all v (map (λ p. p.0) v) ≡ v
values_back [] h = refl
values_back (p ∷ v) h =
    ap (λ b. (p.0, unwrap_or (if b then Some p.1 else looked_up v p.0) (Atom 0)) ∷ values_of_all (p ∷ v) (map (λ q. q.0) v)) (eqb_refl p.0)
    ∙ ap (λ zs. p ∷ zs) (shift_values p v (map (λ q. q.0) v) h.0 ∙ values_back v h.1)

-- own variables

own_range : (a n : ℕ) (v : Binds) → map (λ p. p.0) v ≡ range_with_len a n → (j : ℕ) → first_value (drop j v) ≡ value_under v (a + j)
own_range a n [] h zero = refl
own_range a n [] h (suc j) = refl
own_range a zero (p ∷ v) h j = absurd (cc)
own_range a (suc n) (p ∷ v) h zero =
    let e : p.0 ≡ a = cc in
    let z : a ≡ a + 0 = omega arith in
    sym (ap (λ b. unwrap_or (if b then Some p.1 else looked_up v (a + 0)) (Atom 0)) (ap (λ x. p.0 == x) (sym (e ∙ z)) ∙ eqb_refl p.0))
own_range a (suc n) (p ∷ v) h (suc j) =
    let e : p.0 ≡ a = cc in
    let rest : map (λ p. p.0) v ≡ range_with_len (a + 1) n = cc in
    let lt : p.0 < a + suc j = omega arith in
    let z : (a + 1) + j ≡ a + suc j = omega arith in
    own_range (a + 1) n v rest j ∙ ap (value_under v) z
    ∙ sym (ap (λ b. unwrap_or (if b then Some p.1 else looked_up v (a + suc j)) (Atom 0)) (differs p.0 (a + suc j) lt))

own_after_written : (ws : List ℕ) (n : ℕ) (v : Binds) → AllBelow 16 ws → map (λ p. p.0) v ≡ ws ++ range_with_len 16 n → OwnFrom v (drop (length ws) v) 16
own_after_written [] n v below h j = own_range 16 n v h j
own_after_written (w ∷ ws) n [] below h j = absurd (cc)
own_after_written (w ∷ ws) n (p ∷ v) below h j =
    let e : p.0 ≡ w = cc in
    let rest : map (λ p. p.0) v ≡ ws ++ range_with_len 16 n = cc in
    let b : w < 16 = below.0 in
    let lt : p.0 < 16 + j = omega arith in
    own_after_written ws n v below.1 rest j ∙ sym (ap (λ t. unwrap_or (if t then Some p.1 else looked_up v (16 + j)) (Atom 0)) (differs p.0 (16 + j) lt))

-- the parts of an instance
pub record Parts (s : Setting) (rule : Rule) (v : Binds) : Type 0 where
  pub numbers : map (λ p. p.0) v ≡ variables_of s.grammar rule
  pub terms : list_all (term_fits s v) (terms_of rule) ≡ true
  pub places : list_all (λ x. is_value s declared.Positions (value_under v x)) (flat_map positions rule.body) ≡ true
  pub own : own_fit s (rule_own_features s.grammar rule) (own_values rule v) ≡ true
  pub from : OwnFrom v (own_values rule v) 16

pub parts_of : (s : Setting) (rule : Rule) (v : Binds) → is_instance s rule v ≡ true → Parts s rule v
unfolding is_instance
parts_of s rule v h =
    both_true _ _ h (λ abc d. both_true _ _ abc (λ ab c. both_true _ _ ab (λ a b.
    let numbers = same_numbers_is (map (λ p. p.0) v) (variables_of s.grammar rule) a in
    record {
      numbers = numbers;
      terms = sym (terms_all (term_fits s v) rule) ∙ b;
      places = c;
      own = d;
      from = own_after_written (written_variables rule) (length (rule_own_features s.grammar rule)) v (written_below rule) numbers;
    })))

-- an instance is what it gives to the variables of its rule
pub instance_back : (s : Setting) (rule : Rule) (v : Binds) → is_instance s rule v ≡ true → values_of_all v (variables_of s.grammar rule) ≡ v
instance_back s rule v h =
    let p = parts_of s rule v h in
    ap (values_of_all v) (sym p.numbers) ∙ values_back v (subst Increasing (sym p.numbers) (variables_increasing s rule))

-- each term of an instance has one of its choices

term_one : (s : Setting) (v : Binds) (terms : List (ℕ × Term)) (x f : ℕ) → list_all (term_fits s v) terms ≡ true → first_feature terms x ≡ Some f
    → fits_feature s f (value_under v x) ≡ true
term_one s v [] x f h e = absurd (cc)
term_one s v ((g, Val w) ∷ terms) x f h e = both_true (fits_value) _ h (λ _ rest. term_one s v terms x f rest e)
  where
    fits_value : Bool
    fits_value = true
term_one s v ((g, Var y) ∷ terms) x f h e =
    both_true (fits_feature s g (value_under v y)) (list_all (term_fits s v) terms) h (λ one rest. at (term_one s v terms x f rest) (y == x) refl e one)
  where
    at : (first_feature terms x ≡ Some f → fits_feature s f (value_under v x) ≡ true) → (b : Bool) → (y == x) ≡ b
        → (if b then Some g else first_feature terms x) ≡ Some f → fits_feature s g (value_under v y) ≡ true → fits_feature s f (value_under v x) ≡ true
    at rest true n e one = let same : g ≡ f = cc in
        subst (λ k. fits_feature s k (value_under v x) ≡ true) same (subst (λ z. fits_feature s g (value_under v z) ≡ true) (eqb-true y x n) one)
    at rest false n e one = rest e

place_one : (s : Setting) (v : Binds) (places : List ℕ) (x : ℕ) → list_all (λ y. is_value s declared.Positions (value_under v y)) places ≡ true
    → has places x ≡ true → is_value s declared.Positions (value_under v x) ≡ true
place_one s v [] x h e = absurd (cc)
place_one s v (y ∷ places) x h e =
    both_true (is_value s declared.Positions (value_under v y)) (list_all (λ z. is_value s declared.Positions (value_under v z)) places) h
    (λ one rest. at (place_one s v places x rest) (x == y) refl e one)
  where
    at : (has places x ≡ true → is_value s declared.Positions (value_under v x) ≡ true) → (b : Bool) → (x == y) ≡ b → (b || has places x) ≡ true
        → is_value s declared.Positions (value_under v y) ≡ true → is_value s declared.Positions (value_under v x) ≡ true
    at rest true n e one = subst (λ z. is_value s declared.Positions (value_under v z) ≡ true) (sym (eqb-true x y n)) one
    at rest false n e one = rest e

own_one : (s : Setting) (fs : List ℕ) (own : Binds) (j f : ℕ) → own_fit s fs own ≡ true → slice_get fs j ≡ Some f
    → fits_feature s f (first_value (drop j own)) ≡ true
own_one s [] own j f h e = absurd (cc)
own_one s (g ∷ fs) [] j f h e = absurd (cc)
own_one s (g ∷ fs) (p ∷ own) zero f h e =
    both_true (fits_feature s g p.1) (own_fit s fs own) h (λ one _. let same : g ≡ f = cc in subst (λ k. fits_feature s k p.1 ≡ true) same one)
own_one s (g ∷ fs) (p ∷ own) (suc j) f h e =
    both_true (fits_feature s g p.1) (own_fit s fs own) h (λ _ rest. own_one s fs own j f rest e)

-- a variable that isn't one of the list stands for nothing
not_among : (v : Binds) (x : ℕ) → has (map (λ p. p.0) v) x ≡ false → value_under v x ≡ Atom 0
not_among [] x h = refl
not_among (p ∷ v) x h = at (not_among v x) (x == p.0) refl h
  where
    at : (has (map (λ q. q.0) v) x ≡ false → value_under v x ≡ Atom 0) → (b : Bool) → (x == p.0) ≡ b → (b || has (map (λ q. q.0) v) x) ≡ false
        → value_under (p ∷ v) x ≡ Atom 0
    at rest true n h = absurd (cc)
    at rest false n h = ap (λ t. unwrap_or (if t then Some p.1 else looked_up v x) (Atom 0)) (eqb_comm p.0 x ∙ n) ∙ rest h

filter_without : (t : ℕ → Bool) (x : ℕ) (xs : List ℕ) → t x ≡ false → has (filter t xs) x ≡ false
filter_without t x [] h = refl
filter_without t x (y ∷ ys) h = at (filter_without t x ys h) (t y) refl
  where
    other : t y ≡ true → (x == y) ≡ false
    other e = apart (x == y) refl
      where
        apart : (b : Bool) → (x == y) ≡ b → (x == y) ≡ false
        apart true n = let c : true ≡ false = sym e ∙ ap t (sym (eqb-true x y n)) ∙ h in absurd (cc)
        apart false n = n

    at : has (filter t ys) x ≡ false → (b : Bool) → t y ≡ b → has (cond b (y ∷ filter t ys) (filter t ys)) x ≡ false
    at rest true e = ap (λ b. b || has (filter t ys) x) (other e) ∙ rest
    at rest false e = rest

above_without : (m x : ℕ) (xs : List ℕ) → x ≤ m → AllAbove m xs → has xs x ≡ false
above_without m x [] le h = refl
above_without m x (y ∷ ys) le h =
    let lt : x < y = let a = h.0 in omega arith in
    ap (λ b. b || has ys x) (differs x y lt) ∙ above_without m x ys le h.1

not_written : (s : Setting) (rule : Rule) (x : ℕ) → x < 16 → has (rule_variables rule) x ≡ false → has (variables_of s.grammar rule) x ≡ false
unfolding written_variables
not_written s rule x lt h =
    let n = length (rule_own_features s.grammar rule) in
    has_append (written_variables rule) (range_with_len 16 n) x
    ∙ ap (λ b. b || has (range_with_len 16 n) x) (filter_without (has (rule_variables rule)) x (range_with_len 0 16) h)
    ∙ above_without 15 x (range_with_len 16 n) (omega arith) (range_above 15 16 n (omega arith))

drop_beyond : (s : Setting) (fs : List ℕ) (own : Binds) (j : ℕ) → length own ≡ length fs → slice_get fs j ≡ None → first_value (drop j own) ≡ Atom 0
drop_beyond s [] [] zero n e = refl
drop_beyond s [] [] (suc j) n e = refl
drop_beyond s [] (p ∷ own) j n e = absurd (omega arith)
drop_beyond s (f ∷ fs) [] j n e = absurd (omega arith)
drop_beyond s (f ∷ fs) (p ∷ own) zero n e = absurd (cc)
drop_beyond s (f ∷ fs) (p ∷ own) (suc j) n e = drop_beyond s fs own j (omega arith) e

own_length : (s : Setting) (rule : Rule) (v : Binds) → map (λ p. p.0) v ≡ variables_of s.grammar rule
    → length (own_values rule v) ≡ length (rule_own_features s.grammar rule)
own_length s rule v h =
    let fs = rule_own_features s.grammar rule in
    let w = written_variables rule in
    omega (
      arith,
      length-drop (length w) v,
      length-map v (λ (p : ℕ × Value). p.0),
      ap length h,
      length-append w (range_with_len 16 (length fs)),
      length-range_with_len 16 (length fs),
    )

-- an instance gives each term of its rule one of its choices
pub chosen : (s : Setting) (rule : Rule) (v : Binds) → is_instance s rule v ≡ true → Chosen (choices_in s rule) v
chosen s rule v h (Val w) = inl refl
chosen s rule v h (Var x) = by_feature (first_feature (terms_of rule) x) (has places x) refl refl
  where
    places : List ℕ
    places = flat_map positions rule.body

    own : List ℕ
    own = rule_own_features s.grammar rule

    p : Parts s rule v
    p = parts_of s rule v h

    by_own : (o : Option ℕ) → slice_get own (x - 16) ≡ o → 16 ≤ x → OneOf (own_choices s o) (value_under v x)
    by_own (Some f) e le =
        let z : 16 + (x - 16) ≡ x = omega arith in
        let same : first_value (drop (x - 16) (own_values rule v)) ≡ value_under v x = p.from (x - 16) ∙ ap (value_under v) z in
        subst (λ y. OneOf (feature_values s f) y) same
        (declared_one s (values_of s.grammar f) (first_value (drop (x - 16) (own_values rule v))) (own_one s own (own_values rule v) (x - 16) f p.own e))
    by_own None e le =
        let z : 16 + (x - 16) ≡ x = omega arith in
        let same : first_value (drop (x - 16) (own_values rule v)) ≡ value_under v x = p.from (x - 16) ∙ ap (value_under v) z in
        inl (sym (drop_beyond s own (own_values rule v) (x - 16) (own_length s rule v p.numbers) e) ∙ same)

    by_number : (b : Bool) → nat_lt x 16 ≡ b → first_feature (terms_of rule) x ≡ None → has places x ≡ false
        → OneOf (if b then Atom 0 ∷ [] else own_choices s (slice_get own (x - 16))) (value_under v x)
    by_number true n e f =
        inl (sym (not_among v x (ap (λ ns. has ns x) p.numbers ∙ not_written s rule x (ltb-true x 16 n) (rule_away rule x e f))))
    by_number false n e f = by_own (slice_get own (x - 16)) refl (ltb-false x 16 n)

    by_feature : (o : Option ℕ) (b : Bool) → first_feature (terms_of rule) x ≡ o → has places x ≡ b → OneOf (variable_choices s own x o b) (value_under v x)
    by_feature (Some f) b e k = declared_one s (values_of s.grammar f) (value_under v x) (term_one s v (terms_of rule) x f p.terms e)
    by_feature None true e k = positions_one s (value_under v x) (place_one s v places x p.places k)
    by_feature None false e k = by_number (nat_lt x 16) refl e k

pub own_from_drop : (v own : Binds) (n k : ℕ) → OwnFrom v own n → OwnFrom v (drop k own) (n + k)
own_from_drop v own n k h j =
    let z : n + (k + j) ≡ (n + k) + j = omega arith in
    ap first_value (drop_twice own k j) ∙ h (k + j) ∙ ap (value_under v) z
  where
    drop_twice : (own : Binds) (k j : ℕ) → drop j (drop k own) ≡ drop (k + j) own
    drop_twice own zero j = ap (λ n. drop n own) (zero_plus j)
      where
        zero_plus : (j : ℕ) → j ≡ 0 + j
        zero_plus j = omega arith
    drop_twice [] (suc k) j = drop-nil j ∙ sym (drop-nil (suc k + j))
    drop_twice (q ∷ own) (suc k) j = drop_twice own k j ∙ ap (λ n. drop n (q ∷ own)) (sym (suc_plus k j))
      where
        suc_plus : (k j : ℕ) → suc k + j ≡ suc (k + j)
        suc_plus k j = omega arith
