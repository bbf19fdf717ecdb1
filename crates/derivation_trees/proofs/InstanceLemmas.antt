-- Loops over the variables of a rule.
use Rattle.std.proofs.Common.{◌≡◌, ℕ, suc, zero, ◌+◌, ◌-◌, ◌<◌, ◌≤◌, List, [], ◌∷◌, ◌++◌, Bool, true, false, ◌&&◌, map, filter, length, drop, sym, ap, ◌∙◌, arith, nat_eq, add-zero, add-one, length-drop}
use Rattle.std.specs.List.{range_with_len, list_all, flat_map}
use Rattle.std.proofs.lemmas.Bool.Decides.{nat_tests}
use Rattle.std.proofs.lemmas.List.{drop_more, drop_all}
use Rattle.std.proofs.lemmas.List.Elements.{filter-append}
use Rattle.codeco_terms.specs.declared.values.Value.{Value}
use Rattle.codeco_terms.specs.declared.values.Value.TheVariants.{Atom}
use Rattle.codeco_terms.specs.declared.rules.Rule.{Rule}
use Rattle.codeco_terms.specs.declared.declarations.Declared.TheVariants as declared
use Rattle.codeco_checked.specs.Occurrences.{rule_features, positions}
use Rattle.derivation_trees.specs.Settings.{Setting, is_value}
use Rattle.derivation_trees.specs.Instances.{same_numbers, own_fit, is_instance, written_variables, variables_of, rule_own_features, own_values, term_fits, value_under}

range_push_suc : (n a : ℕ) → range_with_len a (suc n) ≡ range_with_len a n ++ (a + n) ∷ []
range_push_suc zero a = ap (λ x. x ∷ []) (sym (add-zero a))
range_push_suc (suc n) a =
    let same : (a + 1) + n ≡ a + suc n = omega arith in
    ap (λ xs. a ∷ xs) (range_push_suc n (a + 1)) ∙ ap (λ x. a ∷ (range_with_len (a + 1) n ++ x ∷ [])) same

-- one more number
pub range_more : (a n : ℕ) → range_with_len a (n + 1) ≡ range_with_len a n ++ (a + n) ∷ []
range_more a n = ap (range_with_len a) (add-one n) ∙ range_push_suc n a

-- the numbers that pass, with one more number
pub range_push : (p : ℕ → Bool) (n : ℕ) → filter p (range_with_len 0 (n + 1)) ≡ filter p (range_with_len 0 n) ++ filter p (n ∷ [])
range_push p n =
    let same : 0 + n ≡ n = omega arith in
    ap (filter p) (range_more 0 n) ∙ filter-append p (range_with_len 0 n) ((0 + n) ∷ []) ∙ ap (λ x. filter p (range_with_len 0 n) ++ filter p (x ∷ [])) same

pub same_numbers_short : (values : List (ℕ × Value)) (numbers : List ℕ) (i : ℕ) (r : Bool) → i < length values → length numbers ≤ i
    → same_numbers (map (λ p. p.0) (drop i values)) (drop i numbers) ≡ r → false ≡ r
same_numbers_short values numbers i r lt le h =
    ap (λ xs. same_numbers (map (λ p. p.0) xs) []) (sym (drop_more values i (0, Atom 0) lt))
    ∙ ap (λ ns. same_numbers (map (λ p. p.0) (drop i values)) ns) (sym (drop_all i numbers le)) ∙ h

equal_where : (a b : ℕ) → b ≡ a → nat_eq a b ≡ true
equal_where a b h = grind (arith, nat_tests)

unequal_where : (a b : ℕ) → a < b → nat_eq a b ≡ false
unequal_where a b h = grind (arith, nat_tests)

none_left : (ns : List ℕ) (a b : ℕ) → length ns ≡ b - a → a ≤ b → nat_eq a b ≡ same_numbers [] ns
none_left [] a b h le = equal_where a b (omega arith)
none_left (n ∷ ns) a b h le = unequal_where a b (omega arith)

pub same_numbers_end : (values : List (ℕ × Value)) (numbers : List ℕ) (i : ℕ) (r : Bool) → length values ≤ i → i ≤ length values → i ≤ length numbers
    → same_numbers (map (λ p. p.0) (drop i values)) (drop i numbers) ≡ r → nat_eq (length values) (length numbers) ≡ r
same_numbers_end values numbers i r le ge few h =
    none_left (drop i numbers) (length values) (length numbers) (omega (arith, length-drop i numbers)) (omega arith)
    ∙ ap (λ xs. same_numbers (map (λ p. p.0) xs) (drop i numbers)) (sym (drop_all i values le)) ∙ h

pub own_fit_short : (s : Setting) (features : List ℕ) (values : List (ℕ × Value)) (i : ℕ) (r : Bool) → i < length features → length values ≤ i
    → own_fit s (drop i features) (drop i values) ≡ r → false ≡ r
own_fit_short s features values i r lt le h =
    ap (λ fs. own_fit s fs []) (sym (drop_more features i 0 lt)) ∙ ap (own_fit s (drop i features)) (sym (drop_all i values le)) ∙ h

-- an instance by its parts
pub is_instance_at : (s : Setting) (rule : Rule) (values : List (ℕ × Value)) (own numbers : List ℕ) (mine : List (ℕ × Value)) (a b c d : Bool)
    → own ≡ rule_own_features s.grammar rule → numbers ≡ written_variables rule ++ range_with_len 16 (length own) → mine ≡ own_values rule values
    → a ≡ same_numbers (map (λ p. p.0) values) numbers → b ≡ list_all (term_fits s values) (rule_features rule)
    → c ≡ list_all (λ x. is_value s declared.Positions (value_under values x)) (flat_map positions rule.body) → d ≡ own_fit s own mine
    → (((a && b) && c) && d) ≡ is_instance s rule values
unfolding is_instance
is_instance_at s rule values own numbers mine a b c d o n m ha hb hc hd =
    let first : a ≡ same_numbers (map (λ p. p.0) values) (variables_of s.grammar rule) =
    ha ∙ ap (same_numbers (map (λ p. p.0) values)) (n ∙ ap (λ f. written_variables rule ++ range_with_len 16 (length f)) o) in
    let last : d ≡ own_fit s (rule_own_features s.grammar rule) (own_values rule values) =
    hd ∙ ap (λ f. own_fit s f mine) o ∙ ap (own_fit s (rule_own_features s.grammar rule)) m in
    ap (λ x. ((x && b) && c) && d) first ∙ ap (λ x. ((same_numbers (map (λ p. p.0) values) (variables_of s.grammar rule) && x) && c) && d) hb
    ∙ ap (λ x. ((same_numbers (map (λ p. p.0) values) (variables_of s.grammar rule) && list_all (term_fits s values) (rule_features rule)) && x) && d) hc
    ∙ ap (λ x. ((same_numbers (map (λ p. p.0) values) (variables_of s.grammar rule) && list_all (term_fits s values) (rule_features rule))
    && list_all (λ y. is_value s declared.Positions (value_under values y)) (flat_map positions rule.body)) && x) last
