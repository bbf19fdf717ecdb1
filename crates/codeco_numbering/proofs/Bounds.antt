-- Where no early fault holds, all numbers fit.
use Rattle.std.proofs.Common.{◌≡◌, ℕ, ◌≤◌, Bool, true, false, not, ◌&&◌, ◌||◌, eqb, ltb, List, [], ◌∷◌, ◌++◌, All, map, filter, length, get_or, refl, sym, ap, ◌∙◌, arith}
use Rattle.std.specs.List.{list_all, list_any, flat_map}
use Rattle.std.specs.Prelude.{codes}
use Rattle.std.proofs.lemmas.List.{length-map}
use Rattle.std.proofs.lemmas.Bool.{and_parts, or_parts, or_left, or_right, not_from_false, not-false, false_from_ne_true, ltb-false}
use Rattle.std.proofs.lemmas.List.Folds.{list_all-map as all-map}
use Rattle.codeco_terms.specs.declared.declarations.Feature.{Feature}
use Rattle.codeco_text.specs.declared.written.WrittenRule.{WrittenRule}
use Rattle.codeco_text.specs.declared.written.WrittenItem.{WrittenItem}
use Rattle.codeco_text.specs.declared.written.WrittenItem.TheVariants as item
use Rattle.codeco_text.specs.Notation.{item_fits}
use Rattle.codeco_checked.specs.declared.fault.GrammarFault.TheVariants as fault
use Rattle.codeco_checked.specs.Numbering.{differ, is_declared, declared_atoms, grammar_atoms, count_different, first_features, first_atoms}
use Rattle.codeco_checked.specs.Faults.{at_rule, is_double, is_bad_rule, count_texts, has_broad_category, is_large_rule, has_large_declarations}
use Rattle.codeco_numbering.specs.Numbered.{undeclared, with_items, all_features, feature_atoms, atoms_of, rules_of, rule_names, written_terminals, category_names, element_names, variable_names, numbered_of}
use Rattle.codeco_numbering.specs.Early.{HasNoEarlyFault}
use Rattle.codeco_numbering.specs.Fitting.{HasRoom}
use Rattle.wiki_base.proofs.ListLaws.{all_both, all_at, none_each}
use Rattle.codeco_numbering.proofs.Sound.Faults.{at_no_rule}
use Rattle.codeco_numbering.proofs.Sound.Counts.{all_gathered, count_numbers, count_gathered}
use Rattle.codeco_numbering.proofs.Sound.Features.{feature_names}
use Rattle.codeco_numbering.proofs.Sound.Contents.{terminals_of, categories_of, tables_of, numbered_in, atoms_numbered}
use Rattle.codeco_numbering.proofs.Sound.Declared.{rules_pass, features_declared, behind_declared, numbered_names}
use Rattle.codeco_numbering.proofs.Sound.VariableSets.{variables_counted}
use Rattle.codeco_numbering.proofs.Small.{IsSmall, small_rule, rule_terminals_few, rule_names_few, parts_few}
use Rattle.codeco_numbering.proofs.Sizes.{gathered_most, gathered_different, differ_count, filter_differ, filter_behind}

module _ (items : List WrittenItem) (fits : list_all item_fits items ≡ true) (early : HasNoEarlyFault items) where
  abbrev L : Bool
  L = has_large_declarations (numbered_of items)

  abbrev B : Bool
  B = has_broad_category (numbered_of items)

  abbrev N : Bool
  N = ltb 500 (length (numbered_of items).rules)

  abbrev R : ℕ → Bool
  R n = at_rule (is_large_rule (numbered_of items)) (numbered_of items).rules n

  few_declarations : L ≡ false
  few_declarations = false_from_ne_true L
      (λ h. early (fault.TooLarge 0) refl (or_left ((L || (false && B)) || R 0) (false && N) (or_left (L || (false && B)) (R 0) (or_left L (false && B) h))))

  few_rules : length (rules_of items) ≤ 500
  few_rules =
      let none : N ≡ false = false_from_ne_true N (λ h. early (fault.TooLarge 501) refl (or_right (((false && L) || (false && B)) || R 501) N h)) in
      let most = ltb-false 500 (length (numbered_of items).rules) none in
      let same = length-map (rules_of items) (numbered_in items) in
      omega arith

  no_large : list_any (is_large_rule (numbered_of items)) (numbered_of items).rules ≡ false
  no_large = at_no_rule (is_large_rule (numbered_of items)) (numbered_of items).rules
      (λ n h. early (fault.TooLarge n) refl
      (or_left (((eqb n 0 && L) || (eqb n 1 && B)) || R n) (eqb n 501 && N) (or_right ((eqb n 0 && L) || (eqb n 1 && B)) (R n) h)))

  abbrev is_small : WrittenRule → Bool
  is_small r = not (is_large_rule (numbered_of items) (numbered_in items r))

  rules_small : list_all is_small (rules_of items) ≡ true
  rules_small =
      sym (all-map (λ r. not (is_large_rule (numbered_of items) r)) (numbered_in items) (rules_of items))
      ∙ none_each (is_large_rule (numbered_of items)) (λ r. not (is_large_rule (numbered_of items) r))
      (λ r h. not_from_false (is_large_rule (numbered_of items) r) h) (numbered_of items).rules no_large

  small : (r : WrittenRule) → is_small r ≡ true → IsSmall (numbered_in items r)
  small r h = small_rule (numbered_of items) (numbered_in items r) h

  few_terminals : length (terminals_of items) ≤ 16500
  few_terminals =
      let F : WrittenRule → List (List ℕ) = λ r. flat_map written_terminals r.body in
      let written = parts_few F is_small (λ r h. rule_terminals_few (tables_of items r) r (small r h)) (rules_of items) rules_small in
      let most = gathered_most [] (flat_map F (rules_of items)) in
      let rules = few_rules in
      omega arith

  few_categories : length (categories_of items) ≤ 16501
  few_categories =
      let written = parts_few rule_names is_small (λ r h. rule_names_few (tables_of items r) r (small r h)) (rules_of items) rules_small in
      let most = gathered_most (codes "text" ∷ []) (flat_map rule_names (rules_of items)) in
      let rules = few_rules in
      omega arith

  names_once : differ (feature_names (all_features items)) ≡ true
  names_once =
      let g = numbered_of items in
      let twice = not (differ (map (λ f. f.name) g.features)) in
      let inside = list_any (λ f. is_double (declared_atoms f.declared)) g.features in
      let none : (twice || inside) ≡ false =
      false_from_ne_true (twice || inside) (λ h. early (fault.BadValue 0) refl (or_left (twice || inside) (at_rule (is_bad_rule g) g.rules 0) h)) in
      ap differ (sym (numbered_names (atoms_of (all_features items)) (all_features items)))
      ∙ not-false (differ (map (λ f. f.name) g.features)) (or_parts twice inside none).0

  -- a feature is declared once
  pub declared_once : differ (map (λ f. f.name) (with_items (map undeclared first_features) items)) ≡ true
  declared_once = ap (λ fs. differ (feature_names fs)) (sym (features_declared items fits (λ n h. early (fault.Undeclared n) refl h))) ∙ names_once

  few_features : length (feature_names (all_features items)) ≤ 1004
  few_features =
      let g = numbered_of items in
      let p : Feature → Bool = λ f. is_declared f.declared in
      let name : Feature → List ℕ = λ f. f.name in
      let counted = ltb-false 1000 (count_texts (map name (filter p g.features)))
      (or_parts (ltb 1000 (count_texts (map name (filter p g.features)))) (ltb 10000 (count_different (grammar_atoms g))) few_declarations).0 in
      let once : differ (map name g.features) ≡ true = ap differ (numbered_names (atoms_of (all_features items)) (all_features items)) ∙ names_once in
      let each = differ_count (map name (filter p g.features)) (filter_differ name p g.features once) in
      let behind = filter_behind p 4 g.features (behind_declared items fits (λ n h. early (fault.Undeclared n) refl h)) in
      let a = length-map (filter p g.features) name in
      let b = length-map g.features name in
      let c = ap length (numbered_names (atoms_of (all_features items)) (all_features items)) in
      omega arith

  pub few_atoms : length (atoms_of (all_features items)) ≤ 10007
  few_atoms =
      let g = numbered_of items in
      let fs = all_features items in
      let ws = flat_map (λ f. feature_atoms f.domain) fs in
      let counted = ltb-false 10000 (count_different (grammar_atoms g))
      (or_parts (ltb 1000 (count_texts (map (λ f. f.name) (filter (λ f. is_declared f.declared) g.features))))
      (ltb 10000 (count_different (grammar_atoms g))) few_declarations).1 in
      let numbers : count_different (grammar_atoms g) ≡ count_texts ws =
      ap count_different (atoms_numbered (atoms_of fs) fs) ∙ count_numbers (atoms_of fs) ws (all_gathered first_atoms ws) in
      let most = gathered_different first_atoms ws refl in
      omega arith

  rules_fit : list_all (λ r. is_small r && item_fits (item.Rule r)) (rules_of items) ≡ true
  rules_fit = all_both is_small (λ r. item_fits (item.Rule r)) (rules_of items) rules_small
      (rules_pass item_fits (λ r. item_fits (item.Rule r)) (λ r h. h) items fits)

  few_variables : (r : WrittenRule) → (is_small r && item_fits (item.Rule r)) ≡ true → length (variable_names (feature_names (all_features items)) r) ≤ 16
  few_variables r h =
      let parts = and_parts (is_small r) (item_fits (item.Rule r)) h in
      let names = feature_names (all_features items) in
      let most = (small r parts.0).variables in
      let counted = variables_counted (tables_of items r) r parts.1 in
      let gathered_all = count_gathered (category_names names r.head ++ flat_map (element_names names) r.body) in
      omega arith

  room : (r : WrittenRule) → (is_small r && item_fits (item.Rule r)) ≡ true → HasRoom (tables_of items r)
  room r h = record {
    features = let e = few_features in omega arith;
    atoms = let e = few_atoms in omega arith;
    terminals = let e = few_terminals in omega arith;
    categories = let e = few_categories in omega arith;
    variables = let e = few_variables r h in omega arith;
  }

  -- each rule's tables have room
  pub all_room : All (λ r. HasRoom (tables_of items r)) (rules_of items)
  all_room = λ k d lt. room (get_or (rules_of items) k d) (all_at (λ r. is_small r && item_fits (item.Rule r)) (rules_of items) k d rules_fit lt)
