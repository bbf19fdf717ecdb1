-- The numbered grammar has a broad category where the rules as they are written have one.
use Rattle.std.proofs.Common.{◌≡◌, ℕ, zero, suc, ◌+◌, ◌<◌, Bool, true, false, not, ◌&&◌, ◌||◌, ltb, List, [], ◌∷◌, map, length, get_or, codes, refl, sym, ap, subst, ◌∙◌, arith, inl, inr, ◌⊎◌}
use Rattle.std.specs.List.{list_any, list_all, flat_map, range_with_len}
use Rattle.std.proofs.lemmas.List.Folds.{flat_map-map}
use Rattle.std.proofs.lemmas.Bool.{cases_Bool, both_ways, and_parts, or_parts, or_cases, or_right, or_left, not-true, cond-true, cond-false}
use Rattle.std.proofs.Math.Bool.{or_comm}
use Rattle.wiki_base.proofs.ListLaws.{all_both as both_all}
use Rattle.wiki_base.proofs.BoolLaws.{same_tests}
use Rattle.codeco_terms.specs.declared.rules.Rule.{Rule}
use Rattle.codeco_text.specs.declared.written.WrittenRule.{WrittenRule}
use Rattle.codeco_text.specs.declared.written.WrittenItem.{WrittenItem}
use Rattle.codeco_text.specs.Names.{same_bytes, is_among}
use Rattle.codeco_text.proofs.Growth.{same_is, same_bytes_refl}
use Rattle.codeco_text.specs.Notation.{item_fits, kinds}
use Rattle.codeco_checked.specs.Numbering.{differ, count_different}
use Rattle.codeco_checked.specs.Occurrences.{rule_mentions}
use Rattle.codeco_checked.specs.Faults.{count_texts, features_written, has_broad_category}
use Rattle.codeco_numbering.specs.Numbered.{number_of, rules_of, plain_categories, numbered_of, rule_names}
use Rattle.codeco_numbering.proofs.Sound.Tables.{number_kept, differ_gathered, among_gathered}
use Rattle.codeco_numbering.proofs.Sound.Contents.{categories_of, tables_of, numbered_in}
use Rattle.codeco_early_faults.specs.Pairs.{names_with}
use Rattle.codeco_early_faults.specs.Early.{rule_plain_pairs, rule_kind_pairs, written_plain_pairs, written_kind_pairs, has_wide, has_broad_written_category}
use Rattle.codeco_early_faults.proofs.Moves.{Same, same_trans, same_from, same_flat}
use Rattle.codeco_early_faults.proofs.Counting.{texts_decide, differs_comm, count_different_move}
use Rattle.codeco_early_faults.proofs.Numbers.{numbers_differ}
use Rattle.codeco_early_faults.proofs.Mentions.{rule_given}
use Rattle.codeco_early_faults.proofs.Broad.{given_at, given_kept, joined, kind_rule, plain_rule}
use Rattle.codeco_early_faults.proofs.RuleSize.{rule_fits}
use Rattle.codeco_early_faults.proofs.RulesSame.{rules_fit}
use Rattle.codeco_early_faults.proofs.PairsThere.{feature_table, rule_categories_there, plain_features, kind_features, kind_names, plain_rules_first}

-- the features that rules give to a name, rule by rule
joined_rules : (num : List ℕ → ℕ) (w : List ℕ) (f : WrittenRule → List (List ℕ × List ℕ)) (rs : List WrittenRule)
    → flat_map (λ r. map num (names_with w (f r))) rs ≡ map num (names_with w (flat_map f rs))
joined_rules num w f [] = refl
joined_rules num w f (r ∷ rs) = joined num w (f r) (flat_map f rs) (map num (names_with w (f r))) (flat_map (λ x. map num (names_with w (f x))) rs) refl
    (joined_rules num w f rs)

abbrev rule_gives : ℕ → Rule → List ℕ
rule_gives n r = flat_map (λ c. given_at n c.name c.feats) (rule_mentions r)

written_same : (items : List WrittenItem) (n : ℕ) (w : List ℕ) (f : WrittenRule → List (List ℕ × List ℕ)) (fits : WrittenRule → Bool)
    → ((r : WrittenRule) → fits r ≡ true → Same (rule_gives n (numbered_in items r)) (map (number_of (feature_table items)) (names_with w (f r))))
    → list_all fits (rules_of items) ≡ true
    → Same (features_written (numbered_of items) n) (map (number_of (feature_table items)) (names_with w (flat_map f (rules_of items))))
written_same items n w f fits each h =
    same_trans (same_from (flat_map-map (rule_gives n) (numbered_in items) (rules_of items)))
    (same_trans (same_flat fits (λ r. rule_gives n (numbered_in items r)) (λ r. map (number_of (feature_table items)) (names_with w (f r))) each
    (rules_of items) h)
    (same_from (joined_rules (number_of (feature_table items)) w f (rules_of items))))

-- a preterminal
kind_count : (items : List WrittenItem) → list_all item_fits items ≡ true → (w : List ℕ) → is_among kinds w ≡ true
    → count_different (features_written (numbered_of items) (number_of kinds w)) ≡ count_texts (names_with w (written_kind_pairs items))
kind_count items h w here =
    let n = number_of kinds w in
    let same = written_same items n w rule_kind_pairs rule_fits
    (λ r e. same_trans (rule_given (given_at n) (given_kept n) (tables_of items r) r e) (same_from (kind_rule (tables_of items r) w here r)))
    (rules_fit items h) in
    same.moved count_different count_different_move ∙ numbers_differ (feature_table items) (names_with w (written_kind_pairs items)) (kind_features items w)

text_there : (items : List WrittenItem) → is_among (categories_of items) (codes "text") ≡ true
text_there items = among_gathered (codes "text" ∷ []) (flat_map rule_names (rules_of items)) (codes "text")

text_first : (items : List WrittenItem) → number_of (categories_of items) (codes "text") ≡ 0
text_first items = number_kept (codes "text" ∷ []) (flat_map rule_names (rules_of items)) (codes "text") refl

-- another category
plain_count : (items : List WrittenItem) → list_all item_fits items ≡ true → (w : List ℕ) → is_among (categories_of items) w ≡ true
    → count_different (features_written (numbered_of items) (5 + number_of (categories_of items) w)) ≡ count_texts (names_with w (written_plain_pairs items))
plain_count items h w here =
    let n = 5 + number_of (categories_of items) w in
    let named : WrittenRule → Bool = λ r. list_all (λ c. is_among (categories_of items) c.name) (r.head ∷ flat_map plain_categories r.body) in
    let same = written_same items n w rule_plain_pairs (λ r. rule_fits r && named r)
    (λ r e. let parts = and_parts (rule_fits r) (named r) e in
    same_trans (rule_given (given_at n) (given_kept n) (tables_of items r) r parts.0)
    (same_from (plain_rule (tables_of items r) w here (text_first items) (text_there items) r parts.1)))
    (both_all rule_fits named (rules_of items) (rules_fit items h) (rule_categories_there items)) in
    same.moved count_different count_different_move ∙ numbers_differ (feature_table items) (names_with w (written_plain_pairs items)) (plain_features items w)

-- Over all names

-- a test of the numbers from k on, where it is a test of names
range_any : (P : ℕ → Bool) (q : List ℕ → Bool) (xs : List (List ℕ)) (k : ℕ) → ((j : ℕ) → j < length xs → P (k + j) ≡ q (get_or xs j []))
    → list_any P (range_with_len k (length xs)) ≡ list_any q xs
range_any P q [] k same = refl
range_any P q (x ∷ xs) k same =
    let here : k + 0 ≡ k = omega arith in
    ap (λ b. b || list_any P (range_with_len (k + 1) (length xs))) (sym (ap P here) ∙ same 0 (omega arith))
    ∙ ap (λ b. q x || b) (range_any P q xs (k + 1) (λ j lt. let next : k + 1 + j ≡ k + suc j = omega arith in ap P next ∙ same (suc j) (omega arith)))

among_at : (names : List (List ℕ)) (j : ℕ) → j < length names → is_among names (get_or names j []) ≡ true
among_at [] j lt = absurd (omega arith)
among_at (x ∷ xs) zero lt = ap (λ b. b || is_among xs x) (same_bytes_refl x)
among_at (x ∷ xs) (suc j) lt = or_right (same_bytes (get_or xs j []) x) (is_among xs (get_or xs j [])) (among_at xs j (omega arith))

not_at : (names : List (List ℕ)) (w : List ℕ) (j : ℕ) → is_among names w ≡ false → j < length names → same_bytes w (get_or names j []) ≡ false
not_at [] w j h lt = absurd (omega arith)
not_at (x ∷ xs) w zero h lt = (or_parts (same_bytes w x) (is_among xs w) h).0
not_at (x ∷ xs) w (suc j) h lt = not_at xs w j (or_parts (same_bytes w x) (is_among xs w) h).1 (omega arith)

number_at : (names : List (List ℕ)) (j : ℕ) → differ names ≡ true → j < length names → number_of names (get_or names j []) ≡ j
number_at [] j h lt = absurd (omega arith)
number_at (x ∷ xs) zero h lt = cond-true (same_bytes x x) 0 (number_of xs x + 1) (same_bytes_refl x)
number_at (x ∷ xs) (suc j) h lt =
    let parts = and_parts (not (is_among xs x)) (differ xs) h in
    let v = get_or xs j [] in
    let other : same_bytes v x ≡ false = differs_comm same_bytes texts_decide x v (not_at xs x j (not-true (is_among xs x) parts.0) (omega arith)) in
    let rest = number_at xs j parts.1 (omega arith) in
    cond-false (same_bytes v x) 0 (number_of xs v + 1) other ∙ (ap (λ k. k + 1) rest ∙ omega arith)

-- The names whose pairs have too many second names are among the first names.
module _ (ps : List (List ℕ × List ℕ)) where
  abbrev wide : List ℕ → Bool
  wide w = ltb 16 (count_texts (names_with w ps))

  found : (w : List ℕ) → wide w ≡ true → (qs : List (List ℕ × List ℕ)) → (names_with w qs ≡ []) ⊎ (list_any (λ (p : List ℕ × List ℕ). wide p.0) qs ≡ true)
  found w h [] = inl refl
  found w h (q ∷ qs) = elim (cases_Bool (same_bytes w q.0)) [
    | inl e ↦ inr (or_left (wide q.0) (list_any (λ (p : List ℕ × List ℕ). wide p.0) qs) (subst (λ x. wide x ≡ true) (same_is w q.0 e) h))
    | inr e ↦ elim (found w h qs) [
      | inl none ↦ inl (cond-false (same_bytes w q.0) (q.1 ∷ names_with w qs) (names_with w qs) e ∙ none)
      | inr there ↦ inr (or_right (wide q.0) (list_any (λ (p : List ℕ × List ℕ). wide p.0) qs) there)
    ]
  ]

  from_name : (w : List ℕ) → wide w ≡ true → list_any (λ (p : List ℕ × List ℕ). wide p.0) ps ≡ true
  from_name w h = elim (found w h ps) [
    | inl none ↦ absurd (both_ways (wide w) (ap (λ (l : List (List ℕ)). ltb 16 (count_texts l)) none) h)
    | inr there ↦ there
  ]

  from_names : (names : List (List ℕ)) → list_any wide names ≡ true → list_any (λ (p : List ℕ × List ℕ). wide p.0) ps ≡ true
  from_names [] h = absurd cc
  from_names (w ∷ ws) h = elim (or_cases (wide w) (list_any wide ws) h) [
    | inl e ↦ from_name w e
    | inr e ↦ from_names ws e
  ]

  any_among : (names : List (List ℕ)) (w : List ℕ) → is_among names w ≡ true → wide w ≡ true → list_any wide names ≡ true
  any_among [] w e h = absurd cc
  any_among (x ∷ xs) w e h = elim (or_cases (same_bytes w x) (is_among xs w) e) [
    | inl s ↦ or_left (wide x) (list_any wide xs) (subst (λ y. wide y ≡ true) (same_is w x s) h)
    | inr s ↦ or_right (wide x) (list_any wide xs) (any_among xs w s h)
  ]

  to_names : (names : List (List ℕ)) (qs : List (List ℕ × List ℕ)) → list_all (λ (p : List ℕ × List ℕ). is_among names p.0) qs ≡ true
      → list_any (λ (p : List ℕ × List ℕ). wide p.0) qs ≡ true → list_any wide names ≡ true
  to_names names [] a h = absurd cc
  to_names names (q ∷ qs) a h =
      let parts = and_parts (is_among names q.0) (list_all (λ (p : List ℕ × List ℕ). is_among names p.0) qs) a in
      elim (or_cases (wide q.0) (list_any (λ (p : List ℕ × List ℕ). wide p.0) qs) h) [
        | inl e ↦ any_among names q.0 parts.0 e
        | inr e ↦ to_names names qs parts.1 e
      ]

  pub wide_names : (names : List (List ℕ)) → list_all (λ (p : List ℕ × List ℕ). is_among names p.0) ps ≡ true → list_any wide names ≡ has_wide ps
  wide_names names a = same_tests (list_any wide names) (has_wide ps) (from_names names) (to_names names ps a)

-- the numbers of the preterminals, and then the others
or_split : (a b c d e f : Bool) → (a || (b || (c || (d || (e || f))))) ≡ ((a || (b || (c || (d || (e || false))))) || f)
or_split true b c d e f = refl
or_split false true c d e f = refl
or_split false false true d e f = refl
or_split false false false true e f = refl
or_split false false false false true f = refl
or_split false false false false false f = refl

abbrev over : List WrittenItem → ℕ → Bool
over items n = ltb 16 (count_different (features_written (numbered_of items) n))

kinds_over : (items : List WrittenItem) → list_all item_fits items ≡ true
    → list_any (over items) (range_with_len 0 (length kinds)) ≡ has_wide (written_kind_pairs items)
kinds_over items h =
    range_any (over items) (wide (written_kind_pairs items)) kinds 0 (λ j lt.
    let w = get_or kinds j [] in
    let number : 0 + j ≡ number_of kinds w = omega (arith, number_at kinds j refl lt) in
    ap (over items) number ∙ ap (ltb 16) (kind_count items h w (among_at kinds j lt)))
    ∙ wide_names (written_kind_pairs items) kinds (kind_names items)

plains_over : (items : List WrittenItem) → list_all item_fits items ≡ true
    → list_any (over items) (range_with_len 5 (length (categories_of items))) ≡ has_wide (written_plain_pairs items)
plains_over items h =
    let cats = categories_of items in
    range_any (over items) (wide (written_plain_pairs items)) cats 5 (λ j lt.
    let w = get_or cats j [] in
    let number : 5 + j ≡ 5 + number_of cats w =
    ap (λ k. 5 + k) (sym (number_at cats j (differ_gathered (codes "text" ∷ []) (flat_map rule_names (rules_of items)) refl) lt)) in
    ap (over items) number ∙ ap (ltb 16) (plain_count items h w (among_at cats j lt)))
    ∙ wide_names (written_plain_pairs items) cats (plain_rules_first cats (text_there items) (rules_of items) (rule_categories_there items))

pub broad_category : (items : List WrittenItem) → list_all item_fits items ≡ true → has_broad_category (numbered_of items) ≡ has_broad_written_category items
broad_category items h =
    or_split (over items 0) (over items 1) (over items 2) (over items 3) (over items 4)
    (list_any (over items) (range_with_len 5 (length (categories_of items))))
    ∙ ap (λ b. b || list_any (over items) (range_with_len 5 (length (categories_of items)))) (kinds_over items h)
    ∙ ap (λ b. has_wide (written_kind_pairs items) || b) (plains_over items h)
    ∙ or_comm (has_wide (written_kind_pairs items)) (has_wide (written_plain_pairs items))
