-- The numbers that the rules of a sound grammar write are in its tables.
use Rattle.std.proofs.Common.{◌≡◌, ℕ, zero, suc, ◌<◌, Bool, true, false, ◌&&◌, ◌||◌, eqb, ltb, leb, List, [], ◌∷◌, map, length, refl, sym, ◌∙◌, arith}
use Rattle.std.specs.Prelude.{slice_get}
use Rattle.std.specs.Option.{option_map_or}
use Rattle.std.specs.List.{list_all, list_any, flat_map}
use Rattle.std.proofs.lemmas.Bool.{and_parts, and_from, or_parts, or_left, or_right, ltb-false, lt-ltb, le-leb}
use Rattle.std.proofs.lemmas.List.Folds.{list_all-map as all-map}
use Rattle.codeco_terms.specs.declared.values.Value.TheVariants.{Atom, Word, Pos}
use Rattle.codeco_terms.specs.declared.values.Term.{Term}
use Rattle.codeco_terms.specs.declared.values.Term.TheVariants.{Val, Var}
use Rattle.codeco_terms.specs.declared.categories.Category.{Category}
use Rattle.codeco_terms.specs.declared.elements.Element.{Element}
use Rattle.codeco_terms.specs.declared.declarations.Declared.TheVariants as declared
use Rattle.codeco_terms.specs.declared.declarations.Feature.{Feature}
use Rattle.codeco_terms.specs.declared.rules.Rule.{Rule}
use Rattle.codeco_terms.specs.GrammarParts.{GrammarParts}
use Rattle.codeco_checked.specs.declared.fault.GrammarFault.TheVariants as fault
use Rattle.codeco_checked.specs.Occurrences.{mentions, rule_mentions, rule_features, term_variables, category_variables, positions, element_variables, rule_variables, rule_terminals}
use Rattle.codeco_checked.specs.Numbering.{count_different, declared_atoms, grammar_atoms, grammar_names, grammar_terminals, is_declared, variables_count_up}
use Rattle.codeco_checked.specs.Faults.{at_rule, values_of, fits_declared, is_undeclared_rule, is_bad_rule, is_large_rule, has_large_declarations, has_broad_category}
use Rattle.codeco_checked.specs.Sound.{IsSound, is_written_rule}
use Rattle.codeco_numbering.proofs.Sound.Faults.{at_no_rule}
use Rattle.wiki_base.proofs.ListLaws.{all_split, all_flat, flat_all, all_weaken, all_both, all_from_none, none_each}
use Rattle.codeco_checked.proofs.NumberingLemmas.{counted}
use Rattle.codeco_printer.proofs.SoundNames.{no_undeclared, no_bad, not_wrong, values_at}

abbrev pub atom_below : GrammarParts → Term → Bool
atom_below g (Val (Atom a)) = ltb a (length g.atoms)
atom_below g (Val (Word w)) = false
atom_below g (Val (Pos p)) = false
atom_below g (Var x) = true

abbrev pub feat_below : GrammarParts → ℕ × Term → Bool
feat_below g f = ltb f.0 (length g.features) && atom_below g f.1

abbrev pub names_below : GrammarParts → Rule → Bool
names_below g r = list_all (λ c. ltb c.name (length g.categories)) (rule_mentions r)

abbrev pub feats_below : GrammarParts → Rule → Bool
feats_below g r = list_all (feat_below g) (rule_features r)

abbrev pub terminals_below : GrammarParts → Rule → Bool
terminals_below g r = list_all (λ t. ltb t (length g.terminals)) (rule_terminals r)

abbrev pub few_variables : Rule → Bool
few_variables r = leb (count_different (rule_variables r)) 16

-- what a rule's numbers are like
abbrev pub is_fine : GrammarParts → Rule → Bool
is_fine g r = (is_written_rule r && (few_variables r && variables_count_up r)) && (names_below g r && (feats_below g r && terminals_below g r))

declared_below : (features : List Feature) (f : ℕ) → is_declared (option_map_or (λ x. x.declared) (slice_get features f) declared.Undeclared) ≡ true
    → f < length features
declared_below [] f h = absurd cc
declared_below (x ∷ xs) zero h = omega arith
declared_below (x ∷ xs) (suc f) h = let rest = declared_below xs f h in omega arith

term_below : (g : GrammarParts) (f : ℕ) (t : Term) → IsSound g → fits_declared (values_of g f) t ≡ true → atom_below g t ≡ true
term_below g f (Val (Atom a)) s h =
    values_at (λ x. ltb x (length g.atoms)) g.features f a
    (all_flat (λ x. ltb x (length g.atoms)) (λ x. declared_atoms x.declared) g.features (counted 7 (length g.atoms) (grammar_atoms g) s.numbered.atoms).1) h
term_below g f (Val (Word w)) s h = absurd cc
term_below g f (Val (Pos p)) s h = absurd cc
term_below g f (Var x) s h = refl

pub all_feats_below : (g : GrammarParts) → IsSound g → list_all (feats_below g) g.rules ≡ true
all_feats_below g s =
    let P : Rule → Bool = λ r. list_all (λ f. is_declared (values_of g f.0)) (rule_features r) in
    let Q : Rule → Bool = λ r. list_all (λ f. fits_declared (values_of g f.0) f.1) (rule_features r) in
    let named : list_all P g.rules ≡ true =
    none_each (is_undeclared_rule g) P (λ r h. all_from_none (λ f. is_declared (values_of g f.0)) (rule_features r) h) g.rules (no_undeclared g s) in
    let fits : list_all Q g.rules ≡ true = none_each (is_bad_rule g) Q (not_wrong g) g.rules (no_bad g s) in
    all_weaken (λ r. P r && Q r) (feats_below g)
    (λ r h.
    let parts = and_parts (P r) (Q r) h in
    all_weaken (λ f. is_declared (values_of g f.0) && fits_declared (values_of g f.0) f.1) (feat_below g)
    (λ f k.
    let both = and_parts (is_declared (values_of g f.0)) (fits_declared (values_of g f.0) f.1) k in
    and_from (ltb f.0 (length g.features)) (atom_below g f.1) (lt-ltb f.0 (length g.features) (declared_below g.features f.0 both.0))
    (term_below g f.0 f.1 s both.1))
    (rule_features r) (all_both (λ f. is_declared (values_of g f.0)) (λ f. fits_declared (values_of g f.0) f.1) (rule_features r) parts.0 parts.1))
    g.rules (all_both P Q g.rules named fits)

all_names_below : (g : GrammarParts) → IsSound g → list_all (names_below g) g.rules ≡ true
all_names_below g s =
    let q : ℕ → Bool = λ n. ltb n (length g.categories) in
    all_weaken (λ r. list_all q (map (λ c. c.name) (rule_mentions r))) (names_below g) (λ r h. sym (all-map q (λ c. c.name) (rule_mentions r)) ∙ h) g.rules
    (all_flat q (λ r. map (λ c. c.name) (rule_mentions r)) g.rules (counted 6 (length g.categories) (grammar_names g) s.numbered.categories).1)

all_terminals_below : (g : GrammarParts) → IsSound g → list_all (terminals_below g) g.rules ≡ true
all_terminals_below g s = all_flat (λ t. ltb t (length g.terminals)) rule_terminals g.rules
    (counted 0 (length g.terminals) (grammar_terminals g) s.numbered.terminals).1

no_large : (g : GrammarParts) → IsSound g → list_any (is_large_rule g) g.rules ≡ false
no_large g s =
    at_no_rule (is_large_rule g) g.rules (λ n h. s.faultless (fault.TooLarge n)
    (or_left _ (eqb n 501 && ltb 500 (length g.rules))
    (or_right ((eqb n 0 && has_large_declarations g) || (eqb n 1 && has_broad_category g)) (at_rule (is_large_rule g) g.rules n) h)))

few_each : (g : GrammarParts) (r : Rule) → is_large_rule g r ≡ false → few_variables r ≡ true
few_each g r h =
    let a = or_parts _ _ h in
    let b = or_parts _ (ltb 16 (count_different (rule_variables r))) a.0 in
    le-leb (count_different (rule_variables r)) 16 (ltb-false 16 (count_different (rule_variables r)) b.1)

pub all_fine : (g : GrammarParts) → IsSound g → list_all (is_fine g) g.rules ≡ true
all_fine g s =
    let few : list_all few_variables g.rules ≡ true = none_each (is_large_rule g) few_variables (few_each g) g.rules (no_large g s) in
    all_both (λ r. is_written_rule r && (few_variables r && variables_count_up r)) (λ r. names_below g r && (feats_below g r && terminals_below g r)) g.rules
    (all_both is_written_rule (λ r. few_variables r && variables_count_up r) g.rules s.written.rules
    (all_both few_variables variables_count_up g.rules few s.numbered.variables))
    (all_both (names_below g) (λ r. feats_below g r && terminals_below g r) g.rules (all_names_below g s)
    (all_both (feats_below g) (terminals_below g) g.rules (all_feats_below g s) (all_terminals_below g s)))

-- A category whose numbers are in the tables, and whose variables are below k

abbrev pub term_fine : GrammarParts → ℕ → Term → Bool
term_fine g k (Val (Atom a)) = ltb a (length g.atoms)
term_fine g k (Val (Word w)) = false
term_fine g k (Val (Pos p)) = false
term_fine g k (Var x) = ltb x k

abbrev pub feat_fine : GrammarParts → ℕ → ℕ × Term → Bool
feat_fine g k f = ltb f.0 (length g.features) && term_fine g k f.1

abbrev pub category_fine : GrammarParts → ℕ → Category → Bool
category_fine g k c = ltb c.name (length g.categories) && list_all (feat_fine g k) c.feats

term_is_fine : (g : GrammarParts) (k : ℕ) (t : Term) → atom_below g t ≡ true → list_all (λ x. ltb x k) (term_variables t) ≡ true → term_fine g k t ≡ true
term_is_fine g k (Val (Atom a)) h v = h
term_is_fine g k (Val (Word w)) h v = h
term_is_fine g k (Val (Pos p)) h v = h
term_is_fine g k (Var x) h v = (and_parts (ltb x k) true v).0

abbrev pub variables_below : ℕ → Category → Bool
variables_below k c = list_all (λ x. ltb x k) (category_variables c)

category_is_fine : (g : GrammarParts) (k : ℕ) (c : Category) → ltb c.name (length g.categories) ≡ true → list_all (feat_below g) c.feats ≡ true
    → variables_below k c ≡ true → category_fine g k c ≡ true
category_is_fine g k c n f v =
    and_from (ltb c.name (length g.categories)) (list_all (feat_fine g k) c.feats) n
    (all_weaken (λ x. feat_below g x && list_all (λ y. ltb y k) (term_variables x.1)) (feat_fine g k)
    (λ x h.
    let parts = and_parts (feat_below g x) (list_all (λ y. ltb y k) (term_variables x.1)) h in
    let here = and_parts (ltb x.0 (length g.features)) (atom_below g x.1) parts.0 in
    and_from (ltb x.0 (length g.features)) (term_fine g k x.1) here.0 (term_is_fine g k x.1 here.1 parts.1))
    c.feats (all_both (feat_below g) (λ x. list_all (λ y. ltb y k) (term_variables x.1)) c.feats f
    (all_flat (λ y. ltb y k) (λ x. term_variables x.1) c.feats v)))

-- the positions that an element writes, and the variables of its categories, are below k
element_parts : (k : ℕ) (es : List Element) → list_all (λ x. ltb x k) (flat_map element_variables es) ≡ true
    → (list_all (λ e. list_all (λ x. ltb x k) (positions e)) es ≡ true) × (list_all (variables_below k) (flat_map mentions es) ≡ true)
element_parts k es h =
    let each = all_flat (λ x. ltb x k) element_variables es h in (
      all_weaken (λ e. list_all (λ x. ltb x k) (element_variables e)) (λ e. list_all (λ x. ltb x k) (positions e))
          (λ e q. (all_split (λ x. ltb x k) (positions e) (flat_map category_variables (mentions e)) q).0) es each,
      flat_all (variables_below k) mentions es
          (all_weaken (λ e. list_all (λ x. ltb x k) (element_variables e)) (λ e. list_all (variables_below k) (mentions e))
          (λ e q. all_flat (λ x. ltb x k) category_variables (mentions e)
          (all_split (λ x. ltb x k) (positions e) (flat_map category_variables (mentions e)) q).1) es each),
    )

pub positions_fine : (r : Rule) → variables_count_up r ≡ true
    → list_all (λ e. list_all (λ x. ltb x (count_different (rule_variables r))) (positions e)) r.body ≡ true
positions_fine r h =
    let k = count_different (rule_variables r) in
    let all = (counted 0 k (rule_variables r) h).1 in
    (element_parts k r.body (all_split (λ x. ltb x k) (category_variables r.head) (flat_map element_variables r.body) all).1).0

pub mentions_fine : (g : GrammarParts) (r : Rule) → variables_count_up r ≡ true → names_below g r ≡ true → feats_below g r ≡ true
    → list_all (category_fine g (count_different (rule_variables r))) (rule_mentions r) ≡ true
mentions_fine g r h n f =
    let k = count_different (rule_variables r) in
    let all = (counted 0 k (rule_variables r) h).1 in
    let split = all_split (λ x. ltb x k) (category_variables r.head) (flat_map element_variables r.body) all in
    let variables : list_all (variables_below k) (rule_mentions r) ≡ true =
    and_from (variables_below k r.head) (list_all (variables_below k) (flat_map mentions r.body)) split.0 (element_parts k r.body split.1).1 in
    all_weaken (λ c. (ltb c.name (length g.categories) && list_all (feat_below g) c.feats) && variables_below k c) (category_fine g k)
    (λ c q.
    let parts = and_parts (ltb c.name (length g.categories) && list_all (feat_below g) c.feats) (variables_below k c) q in
    let front = and_parts (ltb c.name (length g.categories)) (list_all (feat_below g) c.feats) parts.0 in
    category_is_fine g k c front.0 front.1 parts.1)
    (rule_mentions r)
    (all_both (λ c. ltb c.name (length g.categories) && list_all (feat_below g) c.feats) (variables_below k) (rule_mentions r)
    (all_both (λ c. ltb c.name (length g.categories)) (λ c. list_all (feat_below g) c.feats) (rule_mentions r) n
    (all_flat (feat_below g) (λ c. c.feats) (rule_mentions r) f)) variables)
