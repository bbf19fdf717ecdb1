-- A rule is large as it is numbered where it is as it is written.
use Rattle.std.proofs.Common.{◌≡◌, ℕ, Bool, true, ◌&&◌, ◌||◌, ltb, List, [], ◌∷◌, ◌++◌, map, length, get_or, refl, sym, ap, subst, ◌∙◌, append-nil, length-append, arith}
use Rattle.std.specs.List.{list_any, list_all, flat_map}
use Rattle.std.proofs.lemmas.List.{map-append, length-map}
use Rattle.std.proofs.lemmas.List.Concat.{flat_map-append}
use Rattle.std.proofs.lemmas.Bool.{and_parts}
use Rattle.codeco_numbering.proofs.Sound.Tables.{among_gathered}
use Rattle.codeco_numbering.proofs.Sound.Contents.{body_numbers as body_terminals}
use Rattle.codeco_numbering.proofs.Sound.Order.{term_numbered}
use Rattle.codeco_terms.specs.declared.values.Term.{Term}
use Rattle.codeco_text.specs.declared.written.WrittenFeat.{WrittenFeat}
use Rattle.codeco_text.specs.declared.written.WrittenCategory.{WrittenCategory}
use Rattle.codeco_text.specs.declared.written.WrittenElement.{WrittenElement}
use Rattle.codeco_text.specs.declared.written.WrittenElement.TheVariants as element
use Rattle.codeco_text.specs.declared.written.WrittenRule.{WrittenRule}
use Rattle.codeco_text.specs.Names.{same_bytes, is_among}
use Rattle.codeco_text.specs.Notation.{is_plain, element_fits}
use Rattle.codeco_checked.specs.Numbering.{count_different}
use Rattle.codeco_checked.specs.Occurrences.{rule_variables, term_variables, positions, patterns}
use Rattle.codeco_checked.specs.Occurrences as numbered
use Rattle.codeco_checked.specs.Faults.{count_texts, is_large_rule}
use Rattle.codeco_terms.specs.GrammarParts.{GrammarParts}
use Rattle.codeco_numbering.specs.Numbered.{Tables, number_of, gathered, numbered_category, numbered_pattern, numbered_element, numbered_rule, element_categories, term_names, category_names, element_names, variable_names, written_terminals}
use Rattle.codeco_early_faults.specs.Early.{written_patterns, written_positions, category_variables, element_variables, written_variables, is_large_written_rule}
use Rattle.codeco_early_faults.proofs.Moves.{Same, same_refl, same_trans, same_append, same_from, same_parts, same_test, any_move}
use Rattle.codeco_early_faults.proofs.Counting.{count_different_move}
use Rattle.codeco_early_faults.proofs.Numbers.{all_among, all_in, numbers_differ, name_back}
use Rattle.codeco_early_faults.proofs.Mentions.{with_terms, numbered_feat, written_feats, order_same, category_feats, mentioned, element_given}

-- Variables

abbrev variables_in : List (ℕ × Term) → List ℕ
variables_in fs = flat_map (λ f. term_variables f.1) fs

feat_numbers : (t : Tables) (fs : List WrittenFeat)
    → variables_in (with_terms t (map (numbered_feat t.features) fs)) ≡ map (number_of t.variables) (flat_map (λ f. term_names f.term) fs)
feat_numbers t [] = refl
feat_numbers t (f ∷ fs) =
    ap (λ (l : List ℕ). l ++ variables_in (with_terms t (map (numbered_feat t.features) fs))) (term_numbered t f.term)
    ∙ ap (λ (l : List ℕ). map (number_of t.variables) (term_names f.term) ++ l) (feat_numbers t fs)
    ∙ sym (map-append (number_of t.variables) (term_names f.term) (flat_map (λ x. term_names x.term) fs))

kept : (n : ℕ) (xs ys : List (ℕ × Term)) → Same xs ys → Same (variables_in xs) (variables_in ys)
kept n xs ys s = same_parts (λ f. term_variables f.1) s

categories_numbers : (t : Tables) (cs : List WrittenCategory)
    → flat_map (λ c. variables_in (written_feats t c)) cs ≡ map (number_of t.variables) (flat_map category_variables cs)
categories_numbers t [] = refl
categories_numbers t (c ∷ cs) =
    ap (λ (l : List ℕ). l ++ flat_map (λ x. variables_in (written_feats t x)) cs) (feat_numbers t c.feats)
    ∙ ap (λ (l : List ℕ). map (number_of t.variables) (category_variables c) ++ l) (categories_numbers t cs)
    ∙ sym (map-append (number_of t.variables) (category_variables c) (flat_map category_variables cs))

position_numbers : (t : Tables) (e : WrittenElement) → positions (numbered_element t e) ≡ map (number_of t.variables) (written_positions e)
position_numbers t (element.Terminal w) = refl
position_numbers t e = refl

element_numbers : (t : Tables) (e : WrittenElement) → element_fits e ≡ true
    → Same (numbered.element_variables (numbered_element t e)) (map (number_of t.variables) (element_variables e))
element_numbers t e h =
    same_trans (same_append (same_from (position_numbers t e))
    (same_trans (element_given (λ n fs. variables_in fs) kept t e h)
    (same_from (mentioned (λ c. variables_in (written_feats t c)) t e ∙ categories_numbers t (element_categories e)))))
    (same_from (sym (map-append (number_of t.variables) (written_positions e) (flat_map category_variables (element_categories e)))))

body_numbers : (t : Tables) (es : List WrittenElement) → list_all element_fits es ≡ true
    → Same (flat_map numbered.element_variables (map (numbered_element t) es)) (map (number_of t.variables) (flat_map element_variables es))
body_numbers t [] h = same_refl []
body_numbers t (e ∷ es) h =
    let parts = and_parts (element_fits e) (list_all element_fits es) h in
    same_trans (same_append (element_numbers t e parts.0) (body_numbers t es parts.1))
    (same_from (sym (map-append (number_of t.variables) (element_variables e) (flat_map element_variables es))))

abbrev pub rule_fits : WrittenRule → Bool
rule_fits r = is_plain r.head && list_all element_fits r.body

rule_numbers : (t : Tables) (r : WrittenRule) → rule_fits r ≡ true
    → Same (rule_variables (numbered_rule t r)) (map (number_of t.variables) (written_variables r))
rule_numbers t r h =
    let parts = and_parts (is_plain r.head) (list_all element_fits r.body) h in
    same_trans (same_append (same_trans (kept 0 (numbered_category t r.head).feats (written_feats t r.head) (category_feats t r.head parts.0))
    (same_from (feat_numbers t r.head.feats))) (body_numbers t r.body parts.1))
    (same_from (sym (map-append (number_of t.variables) (category_variables r.head) (flat_map element_variables r.body))))

-- the variables are gathered from the same names in another order
feat_names : (features : List (List ℕ)) (fs : List WrittenFeat)
    → flat_map (λ f. term_names f.1) (map (numbered_feat features) fs) ≡ flat_map (λ f. term_names f.term) fs
feat_names features [] = refl
feat_names features (f ∷ fs) = ap (λ (l : List (List ℕ)). term_names f.term ++ l) (feat_names features fs)

category_same : (features : List (List ℕ)) (c : WrittenCategory) → Same (category_names features c) (category_variables c)
category_same features c = same_trans (same_parts (λ f. term_names f.1) (order_same (map (numbered_feat features) c.feats)))
    (same_from (feat_names features c.feats))

categories_same : (features : List (List ℕ)) (cs : List WrittenCategory) → Same (flat_map (category_names features) cs) (flat_map category_variables cs)
categories_same features [] = same_refl []
categories_same features (c ∷ cs) = same_append (category_same features c) (categories_same features cs)

one_same : (features : List (List ℕ)) (c : WrittenCategory) → Same (category_names features c) (category_variables c ++ [])
one_same features c = same_trans (category_same features c) (same_from (sym (append-nil (category_variables c))))

element_same : (features : List (List ℕ)) (e : WrittenElement) → Same (element_names features e) (element_variables e)
element_same features (element.Terminal w) = same_refl []
element_same features (element.Preterminal c) = one_same features c
element_same features (element.Sub c) = one_same features c
element_same features (element.Position w) = same_refl (w ∷ [])
element_same features element.Opener = same_refl []
element_same features (element.Forward c) = one_same features c
element_same features (element.Strong c) = one_same features c
element_same features (element.Back ps ns) =
    same_trans (same_append (categories_same features ps) (categories_same features ns)) (same_from (sym (flat_map-append category_variables ps ns)))
element_same features (element.NoBack ps) = categories_same features ps

body_same : (features : List (List ℕ)) (es : List WrittenElement) → Same (flat_map (element_names features) es) (flat_map element_variables es)
body_same features [] = same_refl []
body_same features (e ∷ es) = same_append (element_same features e) (body_same features es)

variables_there : (features : List (List ℕ)) (r : WrittenRule) → all_among (variable_names features r) (written_variables r) ≡ true
variables_there features r =
    let names = category_names features r.head ++ flat_map (element_names features) r.body in
    let same : Same names (written_variables r) = same_append (category_same features r.head) (body_same features r.body) in
    all_in (gathered [] names) (written_variables r) (λ w h. among_gathered [] names w ∙ same_test same (λ l. is_among l w) (any_move (same_bytes w)) ∙ h)

pub variables_counted : (t : Tables) (r : WrittenRule) → rule_fits r ≡ true → t.variables ≡ variable_names t.features r
    → count_different (rule_variables (numbered_rule t r)) ≡ count_texts (written_variables r)
variables_counted t r h is =
    (rule_numbers t r h).moved count_different count_different_move
    ∙ numbers_differ t.variables (written_variables r) (subst (λ names. all_among names (written_variables r) ≡ true) (sym is) (variables_there t.features r))

-- Patterns

pattern_length : (t : Tables) (e : WrittenElement) → length (patterns (numbered_element t e)) ≡ length (written_patterns e)
pattern_length t (element.Back ps ns) = omega (
  arith,
  length-append (map (numbered_pattern t) ps) (map (numbered_pattern t) ns),
  length-append ps ns,
  length-map ps (numbered_pattern t),
  length-map ns (numbered_pattern t),
)
pattern_length t (element.NoBack ps) = length-map ps (numbered_pattern t)
pattern_length t e = refl

patterns_length : (t : Tables) (es : List WrittenElement) → length (flat_map patterns (map (numbered_element t) es)) ≡ length (flat_map written_patterns es)
patterns_length t [] = refl
patterns_length t (e ∷ es) = omega (
  arith,
  length-append (patterns (numbered_element t e)) (flat_map patterns (map (numbered_element t) es)),
  length-append (written_patterns e) (flat_map written_patterns es),
  pattern_length t e,
  patterns_length t es,
)

-- Terminals

long_names : (names ws : List (List ℕ)) → all_among names ws ≡ true
    → list_any (λ n. ltb 64 (length (get_or names n []))) (map (number_of names) ws) ≡ list_any (λ w. ltb 64 (length w)) ws
long_names names [] h = refl
long_names names (w ∷ ws) h =
    let parts = and_parts (is_among names w) (all_among names ws) h in
    ap (λ (v : List ℕ). ltb 64 (length v) || list_any (λ n. ltb 64 (length (get_or names n []))) (map (number_of names) ws)) (name_back names w [] parts.0)
    ∙ ap (λ b. ltb 64 (length w) || b) (long_names names ws parts.1)

or_four : (a b c d e f g h : Bool) → a ≡ e → b ≡ f → c ≡ g → d ≡ h → (a || b || c || d) ≡ (e || f || g || h)
or_four a b c d e f g h p q r s = cc

pub large_rule : (g : GrammarParts) (t : Tables) (r : WrittenRule) → rule_fits r ≡ true → t.variables ≡ variable_names t.features r → g.terminals ≡ t.terminals
    → all_among t.terminals (flat_map written_terminals r.body) ≡ true → is_large_rule g (numbered_rule t r) ≡ is_large_written_rule r
large_rule g t r fits is terminals there =
    or_four _ _ _ _ _ _ _ _
    (ap (ltb 16) (length-map r.body (numbered_element t)))
    (ap (ltb 16) (patterns_length t r.body))
    (ap (ltb 16) (variables_counted t r fits is))
    (ap (list_any (λ n. ltb 64 (length (get_or g.terminals n [])))) (body_terminals t r.body)
    ∙ ap (λ (names : List (List ℕ)). list_any (λ n. ltb 64 (length (get_or names n []))) (map (number_of t.terminals) (flat_map written_terminals r.body)))
    terminals
    ∙ long_names t.terminals (flat_map written_terminals r.body) there)
