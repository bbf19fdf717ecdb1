-- The grammar that a text's declarations and rules make is one of the notation, with the numbers that it gives.
use Rattle.std.proofs.Common.{◌≡◌, ℕ, Bool, true, false, not, ◌&&◌, ◌||◌, eqb, List, [], ◌∷◌, ◌++◌, map, refl, sym, ap, subst, ◌∙◌, inl, inr}
use Rattle.std.specs.Prelude.{codes, IsTrue}
use Rattle.std.specs.List.{list_all, list_any, flat_map}
use Rattle.std.proofs.lemmas.Bool.{and_parts, or_parts, or_from, or_right, cases_Bool, cond-true, cond-false}
use Rattle.std.proofs.lemmas.List.Folds.{list_all-map as all-map}
use Rattle.codeco_terms.specs.declared.rules.Rule.{Rule}
use Rattle.codeco_terms.specs.GrammarParts.{GrammarParts}
use Rattle.codeco_text.specs.declared.written.WrittenRule.{WrittenRule}
use Rattle.codeco_text.specs.declared.written.WrittenItem.{WrittenItem}
use Rattle.codeco_text.specs.declared.written.WrittenItem.TheVariants as item
use Rattle.codeco_text.specs.Names.{is_identifier, is_among}
use Rattle.codeco_text.specs.Notation.{item_fits, IsSpelling}
use Rattle.codeco_checked.specs.declared.fault.GrammarFault.{GrammarFault}
use Rattle.codeco_checked.specs.declared.fault.GrammarFault.TheVariants as fault
use Rattle.codeco_checked.specs.Numbering.{counts_up, count_different, begins_with, first_features, first_atoms, variables_count_up, IsNumbered}
use Rattle.codeco_checked.specs.Faults.{at_rule, has_wrong_atom, has_mixed_variable, has_wrong_position, has_double_feature, has_wrong_preterminal, is_bad_rule, has_double_declaration}
use Rattle.codeco_checked.specs.FirstFault.{is_before}
use Rattle.codeco_checked.specs.Sound.{Holds, IsWritten, is_written_rule}
use Rattle.codeco_numbering.specs.Numbered.{gathered, number_of, all_features, feature_atoms, atoms_of, numbered_feature, rules_of, category_names, element_names, rule_names, written_terminals, numbered_of}
use Rattle.wiki_base.proofs.ListLaws.{all_weaken, all_both, none_each}
use Rattle.codeco_numbering.proofs.Sound.Tables.{differ_gathered, gathered_counts_up}
use Rattle.codeco_numbering.proofs.Sound.Counts.{count_gathered}
use Rattle.codeco_numbering.proofs.Sound.Faults.{at_no_rule}
use Rattle.codeco_numbering.proofs.Sound.Spelled.{element_spelled, items_spelled}
use Rattle.codeco_numbering.proofs.Sound.Features.{feature_names, begins_append}
use Rattle.codeco_numbering.proofs.Sound.Variables.{variables_numbered}
use Rattle.codeco_numbering.proofs.Sound.Contents.{tables_of, numbered_in, atoms_count_up, terminals_count_up, categories_count_up}
use Rattle.codeco_numbering.proofs.Sound.Declared.{NoneUndeclared, rules_pass, behind_declared, numbered_names, begins_features}
use Rattle.codeco_numbering.proofs.Sound.Rules.{rule_written}
use Rattle.codeco_numbering.proofs.Sound.Names.{bodies_spelled, features_named, features_valued, atoms_named, categories_named, terminals_named}

rules_fit : (items : List WrittenItem) → list_all item_fits items ≡ true → list_all (λ r. item_fits (item.Rule r)) (rules_of items) ≡ true
rules_fit items h = rules_pass item_fits (λ r. item_fits (item.Rule r)) (λ r k. k) items h

-- the grammar is one of the notation
pub numbered_is_written : (text : List ℕ) (items : List WrittenItem) → IsSpelling text items → IsWritten (numbered_of items)
numbered_is_written text items s =
    let spelled = items_spelled text items s in
    let fit = rules_fit items s.fits in
    let bodies = bodies_spelled items spelled in
    record {
      features = all-map (λ f. is_identifier f.name) (numbered_feature (atoms_of (all_features items))) (all_features items) ∙ features_named items spelled;
      values = features_valued items s.fits;
      atoms = atoms_named items spelled;
      categories = categories_named items spelled;
      terminals = terminals_named items spelled;
      rules = all-map is_written_rule (numbered_in items) (rules_of items)
          ∙ all_weaken (λ r. item_fits (item.Rule r) && list_all element_spelled r.body) (λ r. is_written_rule (numbered_in items r))
          (λ r h.
          let parts = and_parts (item_fits (item.Rule r)) (list_all element_spelled r.body) h in
          rule_written (tables_of items r) r parts.0 parts.1)
          (rules_of items) (all_both (λ r. item_fits (item.Rule r)) (λ r. list_all element_spelled r.body) (rules_of items) fit bodies);
    }

begins_gathered : (xs names ws : List (List ℕ)) → begins_with xs names ≡ true → begins_with xs (gathered names ws) ≡ true
begins_gathered xs names [] h = h
begins_gathered xs names (w ∷ ws) h =
    elim (cases_Bool (is_among names w)) [
      | inl old ↦ ap (λ (x : List (List ℕ)). begins_with xs (gathered x ws)) (cond-true (is_among names w) names (names ++ w ∷ []) old)
          ∙ begins_gathered xs names ws h
      | inr new ↦ ap (λ (x : List (List ℕ)). begins_with xs (gathered x ws)) (cond-false (is_among names w) names (names ++ w ∷ []) new)
          ∙ begins_gathered xs (names ++ w ∷ []) ws (begins_append xs names (w ∷ []) h)
    ]

-- the variables of a rule without a double feature are numbered by first occurrence
pub variables_are_numbered : (items : List WrittenItem) (r : WrittenRule) → item_fits (item.Rule r) ≡ true → has_double_feature (numbered_in items r) ≡ false
    → variables_count_up (numbered_in items r) ≡ true
variables_are_numbered items r h d =
    let names = feature_names (all_features items) in
    let ws = category_names names r.head ++ flat_map (element_names names) r.body in
    let numbers = map (number_of (gathered [] ws)) ws in
    let counts : counts_up 0 (count_different numbers) numbers ≡ true =
    subst (λ (n : ℕ). counts_up 0 n numbers ≡ true) (sym (count_gathered ws)) (gathered_counts_up [] ws) in
    subst (λ (xs : List ℕ). counts_up 0 (count_different xs) xs ≡ true) (sym (variables_numbered (tables_of items r) r h d)) counts

-- no rule writes a feature twice in a category
abbrev pub NoneDouble : List WrittenItem → Type 0
NoneDouble items = list_any has_double_feature (numbered_of items).rules ≡ false

rules_numbered : (items : List WrittenItem) → list_all item_fits items ≡ true → NoneDouble items → list_all variables_count_up (numbered_of items).rules ≡ true
rules_numbered items h d =
    let P : Rule → Bool = λ r. not (has_double_feature r) in
    let single : list_all P (numbered_of items).rules ≡ true = none_each has_double_feature P (λ r k. ap not k) (numbered_of items).rules d in
    let each : list_all (λ r. P (numbered_in items r)) (rules_of items) ≡ true = sym (all-map P (numbered_in items) (rules_of items)) ∙ single in
    all-map variables_count_up (numbered_in items) (rules_of items)
    ∙ all_weaken (λ r. item_fits (item.Rule r) && P (numbered_in items r)) (λ r. variables_count_up (numbered_in items r))
    (λ r k.
    let parts = and_parts (item_fits (item.Rule r)) (P (numbered_in items r)) k in
    variables_are_numbered items r parts.0 (not_single (has_double_feature (numbered_in items r)) parts.1))
    (rules_of items) (all_both (λ r. item_fits (item.Rule r)) (λ r. P (numbered_in items r)) (rules_of items) (rules_fit items h) each)
  where
    not_single : (b : Bool) → not b ≡ true → b ≡ false
    not_single true e = sym e
    not_single false e = refl

-- its numbers are those that the notation gives
pub numbered_is_numbered : (text : List ℕ) (items : List WrittenItem) → IsSpelling text items → NoneUndeclared items → NoneDouble items
    → IsNumbered (numbered_of items)
numbered_is_numbered text items s none double =
    let fs = all_features items in
    let atoms = atoms_of fs in
    let bodies = bodies_spelled items (items_spelled text items s) in
    record {
      first_features = ap (begins_with first_features) (numbered_names atoms fs) ∙ begins_features items;
      first_atoms = begins_gathered first_atoms first_atoms (flat_map (λ f. feature_atoms f.domain) fs) refl;
      first_categories = begins_gathered (codes "text" ∷ []) (codes "text" ∷ []) (flat_map rule_names (rules_of items)) refl;
      features = behind_declared items s.fits none;
      atoms = atoms_count_up items;
      categories = categories_count_up items bodies;
      terminals = terminals_count_up items;
      variables = rules_numbered items s.fits double;
      different_atoms = differ_gathered first_atoms (flat_map (λ f. feature_atoms f.domain) fs) refl;
      different_categories = differ_gathered (codes "text" ∷ []) (flat_map rule_names (rules_of items)) refl;
      different_terminals = differ_gathered [] (flat_map (λ r. flat_map written_terminals r.body) (rules_of items)) refl;
    }

-- a rule that isn't bad writes no feature twice in a category
bad_double : (g : GrammarParts) (r : Rule) → is_bad_rule g r ≡ false → has_double_feature r ≡ false
bad_double g r h =
    let a = or_parts (has_wrong_atom g r || has_mixed_variable g r || has_wrong_position g r || has_double_feature r) (has_wrong_preterminal g r) h in
    (or_parts (has_wrong_atom g r || has_mixed_variable g r || has_wrong_position g r) (has_double_feature r) a.0).1

none_more : {X : Type 0} (p q : X → Bool) → ((x : X) → p x ≡ false → q x ≡ false) → (xs : List X) → list_any p xs ≡ false → list_any q xs ≡ false
none_more p q step [] h = refl
none_more p q step (x ∷ xs) h =
    let parts = or_parts (p x) (list_any p xs) h in
    or_from (q x) (list_any q xs) (step x parts.0) (none_more p q step xs parts.1)

-- Where no rule is bad, none writes a feature twice in a category.
pub none_double : (items : List WrittenItem) → ((n : ℕ) → Holds (numbered_of items) (fault.BadValue n) → ⊥) → NoneDouble items
none_double items none =
    let g = numbered_of items in
    none_more (is_bad_rule g) has_double_feature (bad_double g) g.rules
    (at_no_rule (is_bad_rule g) g.rules (λ n h. none n (or_right (eqb n 0 && has_double_declaration g) (at_rule (is_bad_rule g) g.rules n) h)))

-- The grammar that the declarations and rules of a text make is one of the notation with its numbers, where no fault
-- before a rule's `BadValue` holds, and no rule writes a feature twice in a category.
pub sound_without_doubles : (text : List ℕ) (items : List WrittenItem) → IsSpelling text items
    → ((f : GrammarFault) → IsTrue (is_before f (fault.BadValue 1)) → Holds (numbered_of items) f → ⊥) → NoneDouble items
    → IsWritten (numbered_of items) × IsNumbered (numbered_of items)
sound_without_doubles text items s none double =
    (numbered_is_written text items s, numbered_is_numbered text items s (λ n h. none (fault.Undeclared n) refl h) double)

-- The same where no `BadValue` holds.
pub sound_without_bad_values : (text : List ℕ) (items : List WrittenItem) → IsSpelling text items
    → ((f : GrammarFault) → IsTrue (is_before f (fault.EmptyRule 0)) → Holds (numbered_of items) f → ⊥)
    → IsWritten (numbered_of items) × IsNumbered (numbered_of items)
sound_without_bad_values text items s none = (
  numbered_is_written text items s,
  numbered_is_numbered text items s (λ n h. none (fault.Undeclared n) refl h)
      (none_double items (λ n h. none (fault.BadValue n) refl h)),
)
