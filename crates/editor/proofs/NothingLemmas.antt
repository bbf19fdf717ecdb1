-- No tokens have a partial derivation by any checked grammar: a rule for `text` has an instance, and is cut off at once.
use Rattle.std.proofs.Common.{◌≡◌, ℕ, zero, suc, ◌+◌, ◌-◌, ◌<◌, ◌≤◌, List, [], ◌∷◌, ◌++◌, map, filter, length, drop, Bool, true, false, not, ◌&&◌, ◌||◌, ◌⊎◌, inl, inr, Option, Some, None, refl, sym, ap, subst, ◌∙◌, arith, nat_lt, nat_le}
use Rattle.std.specs.Prelude.{if◌then◌else◌, ◌==◌, option_and_then, option_map, slice_get, unwrap_or}
use Rattle.std.specs.List.{flat_map, list_all, list_any, range_with_len}
use Rattle.std.specs.Option.{option_map_or}
use Rattle.std.proofs.lemmas.Bool.Decides.{nat_tests}
use Rattle.std.proofs.lemmas.Bool.{and_from, or_left, or_right, not-false, false_from_ne_true, ltb-true, ltb-false, eqb-true, or_parts}
use Rattle.std.proofs.lemmas.List.{map-append}
use Rattle.wiki_base.proofs.BoolLaws.{and_first, and_second}
use Rattle.wiki_base.proofs.NumberLaws.{eqb_refl}
use Rattle.derivation_trees.proofs.TruthLemmas.{true_is_false}
use Rattle.codeco_terms.specs.declared.values.Value.{Value}
use Rattle.codeco_terms.specs.declared.values.Value.TheVariants.{Atom, Word, Pos}
use Rattle.codeco_terms.specs.declared.values.Term.{Term}
use Rattle.codeco_terms.specs.declared.values.Term.TheVariants.{Val, Var}
use Rattle.codeco_terms.specs.declared.categories.Category.{Category}
use Rattle.codeco_terms.specs.declared.declarations.Declared.{Declared}
use Rattle.codeco_terms.specs.declared.declarations.Declared.TheVariants as declared
use Rattle.codeco_terms.specs.declared.declarations.Feature.{Feature}
use Rattle.codeco_terms.specs.declared.elements.Element.{Element}
use Rattle.codeco_terms.specs.declared.elements.Element.TheVariants.{Terminal, Preterminal, Sub, Position, Opener, Forward, Strong, Back, NoBack}
use Rattle.codeco_terms.specs.declared.rules.Rule.{Rule}
use Rattle.codeco_terms.specs.GrammarParts.{GrammarParts}
use Rattle.codeco_checked.specs.declared.fault.GrammarFault.TheVariants.{TooLarge, Undeclared, BadValue, NoStart}
use Rattle.codeco_checked.specs.Numbering.{has, counts_up, count_different, is_declared, variables_count_up}
use Rattle.codeco_checked.specs.Occurrences.{mentions, rule_mentions, rule_features, rule_variables, term_variables, category_variables, element_variables, positions}
use Rattle.codeco_checked.specs.Faults.{values_of, features_written, is_large_rule, at_rule, is_undeclared_rule, same_values, same_variable, has_mixed_variable, has_wrong_position, is_bad_rule, has_start}
use Rattle.codeco_checked.specs.Sound.{IsSound, has_values}
use Rattle.lexicon.specs.Words.{Listed}
use Rattle.derivation_trees.specs.Trees.{none}
use Rattle.derivation_trees.specs.Settings.{Setting, is_value, fits_feature}
use Rattle.derivation_trees.specs.Instances.{looked_up, value_under, under, features_of, left_out, own_features, rule_own_features, written_variables, variables_of, same_numbers, term_fits, own_fit, own_values, is_instance}
use Rattle.derivation_trees.specs.Putting.{put, put_all}
use Rattle.derivation_trees.proofs.RangeLemmas.{put_all_range}
use Rattle.derivation_trees.specs.Derives.{Stand, fits, run, same_where_both, rule_with, text_category}
use Rattle.derivation_trees.specs.Partial.{stopped, used_up, front, cut_end, IsBeginning}
use Rattle.derivation_trees.specs.Sentences.{setting_of}
use Rattle.derivations.specs.Enumeration.{is_variable, feature_at}
use Rattle.derivations.proofs.Members.{Among, among_left, among_right, among_flat_map, all_among}
use Rattle.derivations.proofs.ValueLemmas.{range_has}
use Rattle.derivations.proofs.CutLemmas.{Passing, any_passes, passes_any, among_place}
use Rattle.derivations.proofs.SoundLemmas.{Mapped, from_map, Flattened, from_flat_map, rule_numbered}

-- Tests

true_from : (b : Bool) → (not b ≡ true → ⊥) → b ≡ true
true_from true h = refl
true_from false h = absurd (h refl)

-- a test that none passes fails at each
none_passes : {X : Type 0} (p : X → Bool) (xs : List X) (x : X) → list_any p xs ≡ false → Among xs x → p x ≡ false
none_passes p [] x h k = absurd k
none_passes p (z ∷ zs) x h (inl e) = ap p e ∙ (or_parts (p z) (list_any p zs) h).0
none_passes p (z ∷ zs) x h (inr k) = none_passes p zs x (or_parts (p z) (list_any p zs) h).1 k

all_from : {X : Type 0} (p : X → Bool) (xs : List X) → ((x : X) → Among xs x → p x ≡ true) → list_all p xs ≡ true
all_from p [] h = refl
all_from p (x ∷ xs) h = and_from (p x) (list_all p xs) (h x (inl refl)) (all_from p xs (λ y k. h y (inr k)))

among_filter : {X : Type 0} (p : X → Bool) (xs : List X) (x : X) → Among xs x → p x ≡ true → Among (filter p xs) x
among_filter p [] x h k = absurd h
among_filter p (z ∷ zs) x (inl e) k = subst (λ (b : Bool). Among (if b then z ∷ filter p zs else filter p zs) x) (sym (ap p (sym e) ∙ k)) (inl e)
among_filter p (z ∷ zs) x (inr h) k = by (p z) (among_filter p zs x h k)
  where
    by : (b : Bool) → Among (filter p zs) x → Among (if b then z ∷ filter p zs else filter p zs) x
    by true later = inr later
    by false later = later

from_filter : {X : Type 0} (p : X → Bool) (xs : List X) (x : X) → Among (filter p xs) x → Among xs x
from_filter p [] x h = h
from_filter p (z ∷ zs) x h = by (from_filter p zs x) (p z) h
  where
    by : (Among (filter p zs) x → Among zs x) → (b : Bool) → Among (if b then z ∷ filter p zs else filter p zs) x → Among (z ∷ zs) x
    by later true (inl e) = inl e
    by later true (inr k) = inr (later k)
    by later false k = inr (later k)

among_has : (xs : List ℕ) (x : ℕ) → Among xs x → has xs x ≡ true
among_has xs x h = passes_any (λ y. x == y) xs x h (eqb_refl x)

-- Faults

is_positive : (k : ℕ) → nat_lt 0 (1 + k) ≡ true
is_positive k = grind (arith, nat_tests)

one_less : (k : ℕ) → 1 + k - 1 ≡ k
one_less k = omega arith

-- a fault of rules that holds nowhere isn't in a rule
no_fault_in : (test : Rule → Bool) (rules : List Rule) (r : Rule) → Among rules r → ((n : ℕ) → at_rule test rules n ≡ true → ⊥) → test r ≡ false
no_fault_in test rules r h nowhere =
    let at = among_place rules r h in
    let here : at_rule test rules (1 + at.0) ≡ test r =
    ap (λ b. b && option_map_or test (slice_get rules (1 + at.0 - 1)) false) (is_positive at.0)
    ∙ ap (λ k. option_map_or test (slice_get rules k) false) (one_less at.0)
    ∙ ap (λ o. option_map_or test o false) at.1
    in
    false_from_ne_true (test r) (λ t. nowhere (1 + at.0) (here ∙ t))

is_declared_in : (g : GrammarParts) → IsSound g → (r : Rule) → Among g.rules r → (p : ℕ × Term) → Among (rule_features r) p
    → is_declared (values_of g p.0) ≡ true
is_declared_in g sound r h p k =
    let fine : is_undeclared_rule g r ≡ false = no_fault_in (is_undeclared_rule g) g.rules r h (λ n t. sound.faultless (Undeclared n) t) in
    not-false (is_declared (values_of g p.0)) (none_passes (λ (f : ℕ × Term). not (is_declared (values_of g f.0))) (rule_features r) p fine k)

valued_at : (fs : List Feature) (n : ℕ) → list_all (λ f. has_values f.declared) fs ≡ true
    → has_values (option_map_or (λ x. x.declared) (slice_get fs n) declared.Undeclared) ≡ true
valued_at [] n h = refl
valued_at (f ∷ fs) zero h = and_first (has_values f.declared) (list_all (λ x. has_values x.declared) fs) h
valued_at (f ∷ fs) (suc n) h = valued_at fs n (and_second (has_values f.declared) (list_all (λ x. has_values x.declared) fs) h)

is_valued : (g : GrammarParts) → IsSound g → (f : ℕ) → has_values (values_of g f) ≡ true
is_valued g sound f = valued_at g.features f sound.written.values

is_good : (g : GrammarParts) → IsSound g → (r : Rule) → Among g.rules r → is_bad_rule g r ≡ false
is_good g sound r h = no_fault_in (is_bad_rule g) g.rules r h (λ n t. sound.faultless (BadValue n) (or_right _ (at_rule (is_bad_rule g) g.rules n) t))

is_unmixed : (g : GrammarParts) → IsSound g → (r : Rule) → Among g.rules r → has_mixed_variable g r ≡ false
is_unmixed g sound r h = (or_parts _ (has_mixed_variable g r) (or_parts _ _ (or_parts _ _ (or_parts _ _ (is_good g sound r h)).0).0).0).1

is_well_placed : (g : GrammarParts) → IsSound g → (r : Rule) → Among g.rules r → has_wrong_position g r ≡ false
is_well_placed g sound r h = (or_parts _ (has_wrong_position g r) (or_parts _ _ (or_parts _ _ (is_good g sound r h)).0).0).1

is_small : (g : GrammarParts) → IsSound g → (r : Rule) → Among g.rules r → is_large_rule g r ≡ false
is_small g sound r h =
    no_fault_in (is_large_rule g) g.rules r h (λ n t. sound.faultless (TooLarge n) (or_left _ _ (or_right _ (at_rule (is_large_rule g) g.rules n) t)))

-- Variables

-- numbers that count up are below their total
abbrev Counted : ℕ → ℕ → List ℕ → Type 0
Counted next total xs = (next ≤ total) × ((x : ℕ) → Among xs x → x < total)

counted : (next total : ℕ) (xs : List ℕ) → counts_up next total xs ≡ true → Counted next total xs
counted next total [] h = let e : next ≡ total = eqb-true next total h in (omega arith, λ x k. absurd k)
counted next total (y ∷ ys) h = by (nat_lt y next) refl h (counted next total ys) (counted (next + 1) total ys)
  where
    by : (b : Bool) → nat_lt y next ≡ b → (if b then counts_up next total ys else ((y == next) && counts_up (next + 1) total ys)) ≡ true
        → (counts_up next total ys ≡ true → Counted next total ys) → (counts_up (next + 1) total ys ≡ true → Counted (next + 1) total ys)
        → Counted next total (y ∷ ys)
    by true e h same more =
        let rest = same h in
        let low : y < next = ltb-true y next e in
        let within : next ≤ total = rest.0 in
        (within, λ x k. elim k [ inl s ↦ omega (arith, s, low, within) | inr later ↦ rest.1 x later ])
    by false e h same more =
        let rest = more (and_second (y == next) (counts_up (next + 1) total ys) h) in
        let new : y ≡ next = eqb-true y next (and_first (y == next) (counts_up (next + 1) total ys) h) in
        let within : next + 1 ≤ total = rest.0 in
        (omega (arith, within), λ x k. elim k [ inl s ↦ omega (arith, s, new, within) | inr later ↦ rest.1 x later ])

is_below_sixteen : (g : GrammarParts) → IsSound g → (r : Rule) → Among g.rules r → (x : ℕ) → Among (rule_variables r) x → x < 16
is_below_sixteen g sound r h x k =
    let few : nat_lt 16 (count_different (rule_variables r)) ≡ false =
    (or_parts _ (nat_lt 16 (count_different (rule_variables r))) (or_parts _ _ (is_small g sound r h)).0).1 in
    let most : count_different (rule_variables r) ≤ 16 = ltb-false 16 (count_different (rule_variables r)) few in
    let below : x < count_different (rule_variables r) =
    (counted 0 (count_different (rule_variables r)) (rule_variables r) (all_among variables_count_up g.rules r sound.numbered.variables h)).1 x k in
    omega (arith, most, below)

is_written : (g : GrammarParts) → IsSound g → (r : Rule) → Among g.rules r → (x : ℕ) → Among (rule_variables r) x → Among (written_variables r) x
unfolding written_variables
is_written g sound r h x k =
    among_filter (has (rule_variables r)) (range_with_len 0 16) x
    (range_has 16 0 x (omega arith) (let low = is_below_sixteen g sound r h x k in omega (arith, low))) (among_has (rule_variables r) x k)

-- the variables of a feature are variables of the rule
variable_of_feature : (r : Rule) (f x : ℕ) → Among (rule_features r) (f, Var x) → Among (rule_variables r) x
variable_of_feature r f x h =
    let found : Flattened (λ (c : Category). c.feats) (rule_mentions r) (f, Var x) = from_flat_map (λ (c : Category). c.feats) (rule_mentions r) (f, Var x) h in
    by found.from found.among (among_flat_map (λ (p : ℕ × Term). term_variables p.1) found.from.feats (f, Var x) x found.is (inl refl))
  where
    by : (c : Category) → Among (rule_mentions r) c → Among (category_variables c) x → Among (rule_variables r) x
    by c (inl e) k = among_left (category_variables r.head) (flat_map element_variables r.body) x (subst (λ (d : Category). Among (category_variables d) x) e k)
    by c (inr h) k =
        let e : Flattened mentions r.body c = from_flat_map mentions r.body c h in
        among_right (category_variables r.head) (flat_map element_variables r.body) x
        (among_flat_map element_variables r.body e.from x e.among
        (among_right (positions e.from) (flat_map category_variables (mentions e.from)) x (among_flat_map category_variables (mentions e.from) c x e.is k)))

variable_of_position : (r : Rule) (x : ℕ) → Among (flat_map positions r.body) x → Among (rule_variables r) x
variable_of_position r x h =
    let e : Flattened positions r.body x = from_flat_map positions r.body x h in
    among_right (category_variables r.head) (flat_map element_variables r.body) x
    (among_flat_map element_variables r.body e.from x e.among (among_left (positions e.from) (flat_map category_variables (mentions e.from)) x e.is))

-- Values

-- one of the values that are declared
some_value : Declared → Value
some_value declared.Undeclared = Atom 0
some_value declared.Words = Word (record { 0 = 0 })
some_value declared.Positions = Pos 0
some_value (declared.Atoms []) = Atom 0
some_value (declared.Atoms (a ∷ bs)) = Atom a

zero_within : (n : ℕ) → nat_le 0 n ≡ true
zero_within n = grind (arith, nat_tests)

some_value_fits : (s : Setting) (d : Declared) → is_declared d ≡ true → has_values d ≡ true → is_value s d (some_value d) ≡ true
unfolding some_value
some_value_fits s declared.Undeclared h k = h
some_value_fits s declared.Words h k = refl
some_value_fits s declared.Positions h k = zero_within (length s.tokens)
some_value_fits s (declared.Atoms []) h k = k
some_value_fits s (declared.Atoms (a ∷ bs)) h k = among_has (a ∷ bs) a (inl refl)

-- it is one of the same values
some_value_fits_same : (s : Setting) (d e : Declared) → same_values d e ≡ true → is_declared d ≡ true → has_values d ≡ true → is_value s e (some_value d) ≡ true
unfolding some_value
some_value_fits_same s declared.Undeclared e same h k = true_is_false (sym h)
some_value_fits_same s declared.Words declared.Undeclared same h k = same
some_value_fits_same s declared.Words declared.Words same h k = refl
some_value_fits_same s declared.Words declared.Positions same h k = same
some_value_fits_same s declared.Words (declared.Atoms ys) same h k = same
some_value_fits_same s declared.Positions declared.Undeclared same h k = same
some_value_fits_same s declared.Positions declared.Words same h k = same
some_value_fits_same s declared.Positions declared.Positions same h k = zero_within (length s.tokens)
some_value_fits_same s declared.Positions (declared.Atoms ys) same h k = same
some_value_fits_same s (declared.Atoms []) e same h k = true_is_false (sym k)
some_value_fits_same s (declared.Atoms (a ∷ bs)) declared.Undeclared same h k = same
some_value_fits_same s (declared.Atoms (a ∷ bs)) declared.Words same h k = same
some_value_fits_same s (declared.Atoms (a ∷ bs)) declared.Positions same h k = same
some_value_fits_same s (declared.Atoms (a ∷ bs)) (declared.Atoms ys) same h k =
    and_first (has ys a) (list_all (has ys) bs) (and_first (list_all (has ys) (a ∷ bs)) (list_all (has (a ∷ bs)) ys) same)

-- An instance

-- a value of the first feature at which the variable is written, or else a position
chosen_value : GrammarParts → List (ℕ × Term) → ℕ → Value
chosen_value g fs x = option_map_or (λ f. some_value (values_of g f)) (feature_at x fs) (Pos 0)

abbrev paired : GrammarParts → List (ℕ × Term) → List ℕ → List (ℕ × Value)
paired g fs xs = map (λ x. (x, chosen_value g fs x)) xs

-- values for own variables that have these features
abbrev own_paired : GrammarParts → ℕ → List ℕ → List (ℕ × Value)
own_paired g n [] = []
own_paired g n (f ∷ fs) = (n, some_value (values_of g f)) ∷ own_paired g (n + 1) fs

abbrev chosen_values : GrammarParts → Rule → List (ℕ × Value)
chosen_values g r = paired g (rule_features r) (written_variables r) ++ own_paired g 16 (rule_own_features g r)

-- the feature at which the variable is written first
abbrev IsFirstAt : List (ℕ × Term) → ℕ → Option ℕ → Type 0
IsFirstAt fs x None = (p : ℕ × Term) → Among fs p → is_variable x p.1 ≡ false
IsFirstAt fs x (Some f) = (t : Term) × Among fs (f, t) × (is_variable x t ≡ true)

first_at : (fs : List (ℕ × Term)) (x : ℕ) → IsFirstAt fs x (feature_at x fs)
first_at [] x = λ p k. absurd k
first_at (p ∷ fs) x = by (is_variable x p.1) refl (feature_at x fs) (first_at fs x)
  where
    later : (o : Option ℕ) → is_variable x p.1 ≡ false → IsFirstAt fs x o → IsFirstAt (p ∷ fs) x o
    later None other rest = λ q k. elim k [ inl e ↦ ap (λ (w : ℕ × Term). is_variable x w.1) e ∙ other | inr m ↦ rest q m ]
    later (Some f) other rest = (rest.0, inr rest.1, rest.2)

    by : (b : Bool) → is_variable x p.1 ≡ b → (o : Option ℕ) → IsFirstAt fs x o → IsFirstAt (p ∷ fs) x (if b then Some p.0 else o)
    by true e o rest = (p.1, inl refl, e)
    by false e o rest = later o e rest

-- a variable is the term's variable
variable_among : (x : ℕ) (t : Term) → is_variable x t ≡ true → Among (term_variables t) x
variable_among x (Val v) h = true_is_false (sym h)
variable_among x (Var y) h = inl (eqb-true x y h)

same_as_variable : (x : ℕ) (t : Term) → is_variable x t ≡ true → same_variable t (Var x) ≡ true
same_as_variable x (Val v) h = h
same_as_variable x (Var y) h = or_left (y == x) false (subst (λ z. (z == x) ≡ true) (eqb-true x y h) (eqb_refl x))

-- what the chosen value fits
chosen_fits : (g : GrammarParts) → IsSound g → (r : Rule) → Among g.rules r → (s : Setting) → s.grammar ≡ g → (f x : ℕ) → Among (rule_features r) (f, Var x)
    → is_value s (values_of g f) (chosen_value g (rule_features r) x) ≡ true
unfolding chosen_value
chosen_fits g sound r h s same f x k = by (feature_at x (rule_features r)) (first_at (rule_features r) x)
  where
    by : (o : Option ℕ) → IsFirstAt (rule_features r) x o → is_value s (values_of g f) (option_map_or (λ n. some_value (values_of g n)) o (Pos 0)) ≡ true
    by None unwritten = true_is_false (sym (eqb_refl x) ∙ unwritten (f, Var x) k)
    by (Some n) written =
        let one : list_any (λ (w : ℕ × Term). same_variable written.0 w.1 && not (same_values (values_of g n) (values_of g w.0))) (rule_features r) ≡ false =
        none_passes (λ (v : ℕ × Term). list_any (λ (w : ℕ × Term). same_variable v.1 w.1 && not (same_values (values_of g v.0) (values_of g w.0)))
        (rule_features r)) (rule_features r) (n, written.0) (is_unmixed g sound r h) written.1
        in
        let two : (same_variable written.0 (Var x) && not (same_values (values_of g n) (values_of g f))) ≡ false =
        none_passes (λ (w : ℕ × Term). same_variable written.0 w.1 && not (same_values (values_of g n) (values_of g w.0))) (rule_features r) (f, Var x) one k
        in
        let alike : same_values (values_of g n) (values_of g f) ≡ true =
        not-false (same_values (values_of g n) (values_of g f))
        (sym (ap (λ b. b && not (same_values (values_of g n) (values_of g f))) (same_as_variable x written.0 written.2)) ∙ two)
        in
        some_value_fits_same s (values_of g n) (values_of g f) alike (is_declared_in g sound r h (n, written.0) written.1) (is_valued g sound n)

chosen_position : (g : GrammarParts) → IsSound g → (r : Rule) → Among g.rules r → (s : Setting) → (x : ℕ) → Among (flat_map positions r.body) x
    → is_value s declared.Positions (chosen_value g (rule_features r) x) ≡ true
unfolding chosen_value
chosen_position g sound r h s x k = by (feature_at x (rule_features r)) (first_at (rule_features r) x)
  where
    by : (o : Option ℕ) → IsFirstAt (rule_features r) x o → is_value s declared.Positions (option_map_or (λ n. some_value (values_of g n)) o (Pos 0)) ≡ true
    by None unwritten = zero_within (length s.tokens)
    by (Some n) written =
        let one : list_any (λ (w : ℕ × Term). has (term_variables w.1) x && not (same_values (values_of g w.0) declared.Positions)) (rule_features r) ≡ false =
        none_passes (λ y. list_any (λ (w : ℕ × Term). has (term_variables w.1) y && not (same_values (values_of g w.0) declared.Positions)) (rule_features r))
        (flat_map positions r.body) x (is_well_placed g sound r h) k
        in
        let two : (has (term_variables written.0) x && not (same_values (values_of g n) declared.Positions)) ≡ false =
        none_passes (λ (w : ℕ × Term). has (term_variables w.1) x && not (same_values (values_of g w.0) declared.Positions)) (rule_features r) (n, written.0)
        one written.1
        in
        let alike : same_values (values_of g n) declared.Positions ≡ true =
        not-false (same_values (values_of g n) declared.Positions)
        (sym (ap (λ b. b && not (same_values (values_of g n) declared.Positions))
        (among_has (term_variables written.0) x (variable_among x written.0 written.2))) ∙ two)
        in
        some_value_fits_same s (values_of g n) declared.Positions alike (is_declared_in g sound r h (n, written.0) written.1) (is_valued g sound n)

-- a written variable has its chosen value
value_is_chosen : (g : GrammarParts) (fs : List (ℕ × Term)) (xs : List ℕ) (more : List (ℕ × Value)) (x : ℕ) → Among xs x
    → value_under (paired g fs xs ++ more) x ≡ chosen_value g fs x
value_is_chosen g fs [] more x h = absurd h
value_is_chosen g fs (y ∷ ys) more x h = by (y == x) refl (value_is_chosen g fs ys more x)
  where
    by : (b : Bool) → (y == x) ≡ b → (Among ys x → value_under (paired g fs ys ++ more) x ≡ chosen_value g fs x)
        → unwrap_or (if b then Some (chosen_value g fs y) else looked_up (paired g fs ys ++ more) x) (Atom 0) ≡ chosen_value g fs x
    by true e later = ap (chosen_value g fs) (eqb-true y x e)
    by false e later = later (elim h [ inl same ↦ true_is_false (sym (ap (λ z. z == x) (sym same) ∙ eqb_refl x) ∙ e) | inr k ↦ k ])

numbers_same : (xs : List ℕ) → same_numbers xs xs ≡ true
numbers_same [] = refl
numbers_same (x ∷ xs) = and_from (x == x) (same_numbers xs xs) (eqb_refl x) (numbers_same xs)

paired_numbers : (g : GrammarParts) (fs : List (ℕ × Term)) (xs : List ℕ) → map (λ (p : ℕ × Value). p.0) (paired g fs xs) ≡ xs
paired_numbers g fs [] = refl
paired_numbers g fs (x ∷ xs) = ap (λ ys. x ∷ ys) (paired_numbers g fs xs)

own_numbers : (g : GrammarParts) (n : ℕ) (fs : List ℕ) → map (λ (p : ℕ × Value). p.0) (own_paired g n fs) ≡ range_with_len n (length fs)
own_numbers g n [] = refl
own_numbers g n (f ∷ fs) = ap (λ ys. n ∷ ys) (own_numbers g (n + 1) fs)

chosen_numbers : (g : GrammarParts) (r : Rule) → map (λ (p : ℕ × Value). p.0) (chosen_values g r) ≡ variables_of g r
chosen_numbers g r =
    map-append (λ (p : ℕ × Value). p.0) (paired g (rule_features r) (written_variables r)) (own_paired g 16 (rule_own_features g r))
    ∙ ap (λ ys. ys ++ map (λ (p : ℕ × Value). p.0) (own_paired g 16 (rule_own_features g r))) (paired_numbers g (rule_features r) (written_variables r))
    ∙ ap (λ ys. written_variables r ++ ys) (own_numbers g 16 (rule_own_features g r))

paired_dropped : (g : GrammarParts) (fs : List (ℕ × Term)) (xs : List ℕ) (more : List (ℕ × Value)) → drop (length xs) (paired g fs xs ++ more) ≡ more
paired_dropped g fs [] more = refl
paired_dropped g fs (x ∷ xs) more = paired_dropped g fs xs more

-- Own variables

put_from : (x : ℕ) (ys : List ℕ) (f : ℕ) → Among (put x ys) f → (f ≡ x) ⊎ Among ys f
put_from x [] f (inl e) = inl e
put_from x [] f (inr k) = absurd k
put_from x (y ∷ ys) f h = by (nat_lt y x) (x == y) h (put_from x ys f)
  where
    by : (b c : Bool) → Among (if b then y ∷ put x ys else (if c then y ∷ ys else x ∷ y ∷ ys)) f → (Among (put x ys) f → (f ≡ x) ⊎ Among ys f)
        → (f ≡ x) ⊎ Among (y ∷ ys) f
    by true c (inl e) later = inr (inl e)
    by true c (inr k) later = elim (later k) [ inl e ↦ inl e | inr m ↦ inr (inr m) ]
    by false true k later = inr k
    by false false (inl e) later = inl e
    by false false (inr k) later = inr k

put_all_from : (sorted xs : List ℕ) (f : ℕ) → Among (put_all sorted xs) f → Among sorted f ⊎ Among xs f
put_all_from sorted [] f h = inl h
put_all_from sorted (x ∷ xs) f h = elim (put_all_from (put x sorted) xs f h) [
  | inl k ↦
      elim (put_from x sorted f k) [ inl e ↦ inr (inl e) | inr m ↦ inl m ]
  | inr k ↦ inr (inr k)
]

-- a feature that is written with a category's name is declared
written_is_declared : (g : GrammarParts) → IsSound g → (name f : ℕ) → Among (features_written g name) f → is_declared (values_of g f) ≡ true
written_is_declared g sound name f h =
    let rule : Flattened (λ (r : Rule). flat_map (λ (c : Category). if c.name == name then map (λ (p : ℕ × Term). p.0) c.feats else []) (rule_mentions r))
    g.rules f =
    from_flat_map (λ (r : Rule). flat_map (λ (c : Category). if c.name == name then map (λ (p : ℕ × Term). p.0) c.feats else []) (rule_mentions r)) g.rules f h
    in
    let category : Flattened (λ (c : Category). if c.name == name then map (λ (p : ℕ × Term). p.0) c.feats else []) (rule_mentions rule.from) f =
    from_flat_map (λ (c : Category). if c.name == name then map (λ (p : ℕ × Term). p.0) c.feats else []) (rule_mentions rule.from) f rule.is
    in
    let written : Mapped (λ (p : ℕ × Term). p.0) category.from.feats f =
    from_map (λ (p : ℕ × Term). p.0) category.from.feats f (of_name (category.from.name == name) category.from category.is) in
    subst (λ n. is_declared (values_of g n) ≡ true) (sym written.is)
    (is_declared_in g sound rule.from rule.among written.from
    (among_flat_map (λ (c : Category). c.feats) (rule_mentions rule.from) category.from written.from category.among written.among))
  where
    of_name : (b : Bool) (c : Category) → Among (if b then map (λ (p : ℕ × Term). p.0) c.feats else []) f → Among (map (λ (p : ℕ × Term). p.0) c.feats) f
    of_name true c k = k
    of_name false c k = absurd k

left_out_is_declared : (g : GrammarParts) → IsSound g → (c : Category) (f : ℕ) → Among (left_out g c) f → is_declared (values_of g f) ≡ true
left_out_is_declared g sound c f h =
    written_is_declared g sound c.name f
    (by (put_all_from [] (features_written g c.name) f
    (subst (λ fs. Among fs f) (sym (put_all_range (features_written g c.name)))
    (from_filter (λ n. not (has (map (λ (p : ℕ × Term). p.0) c.feats) n)) (features_of g c.name) f h))))
  where
    by : ⊥ ⊎ Among (features_written g c.name) f → Among (features_written g c.name) f
    by (inl k) = absurd k
    by (inr k) = k

own_is_declared : (g : GrammarParts) → IsSound g → (e : Element) (f : ℕ) → Among (own_features g e) f → is_declared (values_of g f) ≡ true
own_is_declared g sound (Terminal t) f h = absurd h
own_is_declared g sound (Preterminal c) f h = absurd h
own_is_declared g sound (Sub c) f h = absurd h
own_is_declared g sound (Position x) f h = absurd h
own_is_declared g sound Opener f h = absurd h
own_is_declared g sound (Forward c) f h = left_out_is_declared g sound c f h
own_is_declared g sound (Strong c) f h = left_out_is_declared g sound c f h
own_is_declared g sound (Back ps ns) f h = absurd h
own_is_declared g sound (NoBack ps) f h = absurd h

own_paired_fit : (s : Setting) (n : ℕ) (fs : List ℕ) → ((f : ℕ) → Among fs f → fits_feature s f (some_value (values_of s.grammar f)) ≡ true)
    → own_fit s fs (own_paired s.grammar n fs) ≡ true
own_paired_fit s n [] h = refl
own_paired_fit s n (f ∷ fs) h = and_from _ _ (h f (inl refl)) (own_paired_fit s (n + 1) fs (λ e k. h e (inr k)))

-- the chosen values are an instance
chosen_instance : (s : Setting) → IsSound s.grammar → (r : Rule) → Among s.grammar.rules r → is_instance s r (chosen_values s.grammar r) ≡ true
unfolding is_instance
chosen_instance s sound r h =
    let g = s.grammar in
    let fs = rule_features r in
    let values = chosen_values g r in
    let chosen : (x : ℕ) → Among (rule_variables r) x → value_under values x ≡ chosen_value g fs x =
    λ x k. value_is_chosen g fs (written_variables r) (own_paired g 16 (rule_own_features g r)) x (is_written g sound r h x k)
    in
    let numbers : same_numbers (map (λ (p : ℕ × Value). p.0) values) (variables_of g r) ≡ true =
    ap (λ ns. same_numbers ns (variables_of g r)) (chosen_numbers g r) ∙ numbers_same (variables_of g r) in
    let terms : list_all (term_fits s values) fs ≡ true = all_from (term_fits s values) fs (λ p k. term_at chosen p.0 p.1 k) in
    let places : list_all (λ x. is_value s declared.Positions (value_under values x)) (flat_map positions r.body) ≡ true =
    all_from (λ x. is_value s declared.Positions (value_under values x)) (flat_map positions r.body)
    (λ x k. ap (is_value s declared.Positions) (chosen x (variable_of_position r x k)) ∙ chosen_position g sound r h s x k)
    in
    let own : own_fit s (rule_own_features g r) (own_values r values) ≡ true =
    ap (own_fit s (rule_own_features g r)) (paired_dropped g fs (written_variables r) (own_paired g 16 (rule_own_features g r)))
    ∙ own_paired_fit s 16 (rule_own_features g r) (λ f k. own_at f (from_flat_map (own_features g) r.body f k))
    in
    and_from _ _ (and_from _ _ (and_from _ _ numbers terms) places) own
  where
    term_at : ((x : ℕ) → Among (rule_variables r) x → value_under (chosen_values s.grammar r) x ≡ chosen_value s.grammar (rule_features r) x)
        → (f : ℕ) (t : Term) → Among (rule_features r) (f, t) → term_fits s (chosen_values s.grammar r) (f, t) ≡ true
    term_at chosen f (Val v) k = refl
    term_at chosen f (Var x) k = ap (fits_feature s f) (chosen x (variable_of_feature r f x k)) ∙ chosen_fits s.grammar sound r h s refl f x k

    own_at : (f : ℕ) → Flattened (own_features s.grammar) r.body f → fits_feature s f (some_value (values_of s.grammar f)) ≡ true
    own_at f e = some_value_fits s (values_of s.grammar f) (own_is_declared s.grammar sound e.from f e.is) (is_valued s.grammar sound f)

-- a rule that fits `text` has a node that is cut off before its first element
cut_at_once : (s : Setting) (n : ℕ) (r : Rule) (values : List (ℕ × Value)) → rule_with s.grammar n ≡ Some r → fits (under values r.head) text_category ≡ true
    → is_instance s r values ≡ true → cut_end s (stopped n values [] none 0) text_category (record { place = 0; list = [] }) ≡ Some 0
cut_at_once s n r values at fit instance =
    ap (λ o. option_map (λ stand. stand.at.place) (option_and_then (λ rule. front s rule values [] [] 0 text_category (record { place = 0; list = [] })) o)) at
    ∙ ap (λ (b : Bool). option_map (λ (stand : Stand). stand.at.place) (option_and_then (λ stand. option_and_then used_up (run s values [] stand))
    (if b then Some (record { at = record { place = 0; list = [] }; found = []; own = own_values r values; children = [] }) else None)))
    (and_from _ _ fit instance)

-- no tokens have a partial derivation
pub begins_with_nothing : (g : GrammarParts) (lexicon : Listed) → IsSound g → IsBeginning g lexicon []
begins_with_nothing g lexicon sound =
    let starts : has_start g ≡ true = true_from (has_start g) (λ t. sound.faultless NoStart t) in
    let rule : Passing (λ (r : Rule). r.head.name == 5) g.rules = any_passes (λ (r : Rule). r.head.name == 5) g.rules starts in
    let place = among_place g.rules rule.one rule.among in
    let values = chosen_values g rule.one in
    let fit : fits (under values rule.one.head) text_category ≡ true =
    and_from _ _ rule.passes (all_from (λ p. list_all (same_where_both p) []) (under values rule.one.head).values (λ p k. refl)) in (
      stopped (1 + place.0) values [] none 0,
      cut_at_once (setting_of g lexicon []) (1 + place.0) rule.one values (rule_numbered g place.0 rule.one place.1) fit
          (chosen_instance (setting_of g lexicon []) sound rule.one rule.among),
    )
