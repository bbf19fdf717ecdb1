-- The faults of rules in the numbered grammar are those of the rules as they are written, at the same places.
use Rattle.std.proofs.Common.{◌≡◌, ℕ, zero, suc, ◌-◌, Bool, true, false, not, ◌&&◌, ◌||◌, ltb, List, [], ◌∷◌, ◌++◌, map, length, refl, sym, ap, ◌∙◌}
use Rattle.std.specs.Prelude.{slice_get}
use Rattle.std.specs.List.{list_any, list_all, flat_map}
use Rattle.std.specs.Option.{option_map_or}
use Rattle.std.proofs.lemmas.List.{length-map}
use Rattle.std.proofs.lemmas.Bool.{and_parts}
use Rattle.std.proofs.lemmas.List.Folds.{list_any-append as any-append}
use Rattle.codeco_terms.specs.declared.values.Term.{Term}
use Rattle.codeco_terms.specs.declared.rules.Rule.{Rule}
use Rattle.codeco_text.specs.declared.written.WrittenFeat.{WrittenFeat}
use Rattle.codeco_text.specs.declared.written.WrittenCategory.{WrittenCategory}
use Rattle.codeco_text.specs.declared.written.WrittenElement.{WrittenElement}
use Rattle.codeco_text.specs.declared.written.WrittenRule.{WrittenRule}
use Rattle.codeco_text.specs.declared.written.WrittenItem.{WrittenItem}
use Rattle.codeco_text.specs.Names.{is_among}
use Rattle.codeco_text.specs.Notation.{item_fits}
use Rattle.codeco_checked.specs.Numbering.{is_declared}
use Rattle.codeco_checked.specs.Occurrences.{rule_features}
use Rattle.codeco_checked.specs.Faults.{at_rule, is_large_rule, is_undeclared_rule, values_of}
use Rattle.codeco_numbering.specs.Numbered.{Tables, number_of, numbered_rule, all_features, atoms_of, rules_of, numbered_of, written_terminals, written_features, category_features, element_categories}
use Rattle.wiki_base.proofs.ListLaws.{all_flat, all_both as both_all, any_same}
use Rattle.codeco_numbering.proofs.Sound.Declared.{rules_pass}
use Rattle.codeco_numbering.proofs.Sound.Contents.{terminals_of, tables_of, numbered_in}
use Rattle.codeco_early_faults.specs.Early.{declared_names, is_large_written_rule, is_undeclared_written_rule, at_written_rule, is_undeclared_place}
use Rattle.codeco_early_faults.proofs.Moves.{same_test, any_move}
use Rattle.codeco_early_faults.proofs.Numbers.{all_among, all_gathered}
use Rattle.codeco_early_faults.proofs.Mentions.{with_terms, numbered_feat, written_feats, numbered_mentions, mentioned, rule_given}
use Rattle.codeco_early_faults.proofs.Gathering.{flat_map-flat_map}
use Rattle.codeco_early_faults.proofs.RuleSize.{rule_fits, large_rule}
use Rattle.codeco_early_faults.proofs.Undeclared.{number_filled, filled_features}

-- a test at a place, where it is the same before and after the rules are mapped
mapped_at : (f : WrittenRule → Rule) (p : Rule → Bool) (q fits : WrittenRule → Bool) → ((r : WrittenRule) → fits r ≡ true → p (f r) ≡ q r)
    → (rs : List WrittenRule) (k : ℕ) → list_all fits rs ≡ true → option_map_or p (slice_get (map f rs) k) false ≡ option_map_or q (slice_get rs k) false
mapped_at f p q fits same [] k h = refl
mapped_at f p q fits same (r ∷ rs) zero h = same r (and_parts (fits r) (list_all fits rs) h).0
mapped_at f p q fits same (r ∷ rs) (suc k) h = mapped_at f p q fits same rs k (and_parts (fits r) (list_all fits rs) h).1

pub rules_fit : (items : List WrittenItem) → list_all item_fits items ≡ true → list_all rule_fits (rules_of items) ≡ true
rules_fit items h = rules_pass item_fits rule_fits (λ r e. e) items h

-- Large rules

abbrev pub rule_there : List (List ℕ) → WrittenRule → Bool
rule_there terminals r = rule_fits r && all_among terminals (flat_map written_terminals r.body)

terminals_there : (items : List WrittenItem) → list_all (λ r. all_among (terminals_of items) (flat_map written_terminals r.body)) (rules_of items) ≡ true
terminals_there items =
    let words = flat_map (λ (r : WrittenRule). flat_map written_terminals r.body) (rules_of items) in
    all_flat (is_among (terminals_of items)) (λ r. flat_map written_terminals r.body) (rules_of items) (all_gathered [] words)

pub large_places : (items : List WrittenItem) → list_all item_fits items ≡ true → (n : ℕ)
    → at_rule (is_large_rule (numbered_of items)) (numbered_of items).rules n ≡ at_written_rule is_large_written_rule (rules_of items) n
large_places items h n =
    let there = both_all rule_fits (λ r. all_among (terminals_of items) (flat_map written_terminals r.body)) (rules_of items) (rules_fit items h)
    (terminals_there items) in
    ap (λ b. ltb 0 n && b) (mapped_at (numbered_in items) (is_large_rule (numbered_of items)) is_large_written_rule (rule_there (terminals_of items))
    (λ r e. let parts = and_parts (rule_fits r) (all_among (terminals_of items) (flat_map written_terminals r.body)) e in
    large_rule (numbered_of items) (tables_of items r) r parts.0 refl refl parts.1)
    (rules_of items) (n - 1) there)

pub rules_counted : (items : List WrittenItem) → length (numbered_of items).rules ≡ length (rules_of items)
rules_counted items = length-map (rules_of items) (numbered_in items)

-- Undeclared features

feat_numbers : (t : Tables) (fs : List WrittenFeat) (test : ℕ → Bool)
    → list_any (λ f. test f.0) (with_terms t (map (numbered_feat t.features) fs)) ≡ list_any (λ w. test (number_of t.features w)) (map (λ f. f.name) fs)
feat_numbers t [] test = refl
feat_numbers t (f ∷ fs) test = ap (λ b. test (number_of t.features f.name) || b) (feat_numbers t fs test)

categories_numbers : (t : Tables) (test : ℕ → Bool) (cs : List WrittenCategory)
    → list_any (λ f. test f.0) (flat_map (written_feats t) cs) ≡ list_any (λ w. test (number_of t.features w)) (flat_map category_features cs)
categories_numbers t test [] = refl
categories_numbers t test (c ∷ cs) =
    any-append (λ f. test f.0) (written_feats t c) (flat_map (written_feats t) cs)
    ∙ ap (λ b. b || list_any (λ f. test f.0) (flat_map (written_feats t) cs)) (feat_numbers t c.feats test)
    ∙ ap (λ b. list_any (λ w. test (number_of t.features w)) (category_features c) || b) (categories_numbers t test cs)
    ∙ sym (any-append (λ w. test (number_of t.features w)) (category_features c) (flat_map category_features cs))

body_mentioned : (t : Tables) (es : List WrittenElement)
    → flat_map (λ m. written_feats t m.1) (flat_map (numbered_mentions t) es) ≡ flat_map (written_feats t) (flat_map element_categories es)
body_mentioned t es =
    flat_map-flat_map (λ m. written_feats t m.1) (numbered_mentions t) es ∙ each es ∙ sym (flat_map-flat_map (written_feats t) element_categories es)
  where
    each : (xs : List WrittenElement) → flat_map (λ e. flat_map (λ m. written_feats t m.1) (numbered_mentions t e)) xs
        ≡ flat_map (λ e. flat_map (written_feats t) (element_categories e)) xs
    each [] = refl
    each (x ∷ xs) =
        ap (λ (l : List (ℕ × Term)). l ++ flat_map (λ e. flat_map (λ m. written_feats t m.1) (numbered_mentions t e)) xs) (mentioned (written_feats t) t x)
        ∙ ap (λ (l : List (ℕ × Term)). flat_map (written_feats t) (element_categories x) ++ l) (each xs)

-- a test of the numbers of the features that a rule writes
rule_numbers : (t : Tables) (r : WrittenRule) (test : ℕ → Bool) → rule_fits r ≡ true
    → list_any (λ f. test f.0) (rule_features (numbered_rule t r)) ≡ list_any (λ w. test (number_of t.features w)) (written_features r)
rule_numbers t r test h =
    let given = rule_given (λ n fs. fs) (λ n xs ys s. s) t r h in
    same_test given (list_any (λ f. test f.0)) (any_move (λ f. test f.0))
    ∙ ap (λ (l : List (ℕ × Term)). list_any (λ f. test f.0) (written_feats t r.head ++ l)) (body_mentioned t r.body)
    ∙ categories_numbers t test (r.head ∷ flat_map element_categories r.body)

undeclared_rule : (items : List WrittenItem) (r : WrittenRule) → rule_fits r ≡ true
    → is_undeclared_rule (numbered_of items) (numbered_in items r) ≡ is_undeclared_written_rule (declared_names items) r
undeclared_rule items r h =
    rule_numbers (tables_of items r) r (λ n. not (is_declared (values_of (numbered_of items) n))) h
    ∙ any_same (λ w. not (is_declared (values_of (numbered_of items) (number_of (map (λ f. f.name) (all_features items)) w))))
    (λ w. not (is_among (declared_names items) w))
    (λ w. ap not (number_filled (atoms_of (all_features items)) (all_features items) w ∙ filled_features items w)) (written_features r)

pub undeclared_places : (items : List WrittenItem) → list_all item_fits items ≡ true → (n : ℕ)
    → at_rule (is_undeclared_rule (numbered_of items)) (numbered_of items).rules n ≡ is_undeclared_place items n
undeclared_places items h n =
    ap (λ b. ltb 0 n && b) (mapped_at (numbered_in items) (is_undeclared_rule (numbered_of items)) (is_undeclared_written_rule (declared_names items)) rule_fits
    (undeclared_rule items) (rules_of items) (n - 1) (rules_fit items h))
