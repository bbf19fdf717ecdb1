-- A rule in numbers has as many variables as it writes, also where a feature stands twice in a category.
use Rattle.std.proofs.Common.{◌≡◌, ℕ, true, ◌||◌, eqb, ltb, List, [], ◌∷◌, ◌++◌, map, refl, sym, ap, ◌∙◌, inl, inr}
use Rattle.std.specs.List.{list_all, flat_map}
use Rattle.std.proofs.lemmas.List.{map-append}
use Rattle.std.proofs.lemmas.List.Concat.{flat_map-append}
use Rattle.std.proofs.lemmas.Bool.{and_parts, cases_Bool, cond-true, cond-false}
use Rattle.std.proofs.Math.Bool.{or_assoc as or_three}
use Rattle.wiki_base.proofs.BoolLaws.{or-swap as or_swap}
use Rattle.codeco_terms.specs.declared.values.Term.{Term}
use Rattle.codeco_terms.specs.declared.values.Term.TheVariants.{Var}
use Rattle.codeco_text.specs.declared.written.WrittenTerm.{WrittenTerm}
use Rattle.codeco_text.specs.declared.written.WrittenTerm.TheVariants as term
use Rattle.codeco_text.specs.declared.written.WrittenCategory.{WrittenCategory}
use Rattle.codeco_text.specs.declared.written.WrittenElement.{WrittenElement}
use Rattle.codeco_text.specs.declared.written.WrittenElement.TheVariants as element
use Rattle.codeco_text.specs.declared.written.WrittenRule.{WrittenRule}
use Rattle.codeco_text.specs.declared.written.WrittenItem.TheVariants as item
use Rattle.codeco_text.specs.Notation.{is_plain, element_fits, item_fits}
use Rattle.codeco_checked.specs.Occurrences.{put_feature, with_taken, whole, term_variables, category_variables, element_variables, rule_variables}
use Rattle.codeco_checked.specs.Numbering.{has, count_different}
use Rattle.codeco_numbering.specs.Numbered.{number_of, ordered, term_names, category_names, Tables, plain_feats, taken_feats, numbered_category, numbered_pattern, numbered_element, element_names, numbered_rule}
use Rattle.codeco_numbering.proofs.Sound.Sets.{has_append, count_same}
use Rattle.codeco_numbering.proofs.Sound.Variables.{variable_numbers, category_numbered, one_numbered}

abbrev variables_in : List (ℕ × Term) → List ℕ
variables_in fs = flat_map (λ f. term_variables f.1) fs

put_variables : (k v n : ℕ) (fs : List (ℕ × Term)) → has (variables_in (put_feature (k, Var v) fs)) n ≡ (eqb n v || has (variables_in fs) n)
put_variables k v n [] = refl
put_variables k v n (f ∷ fs) =
    let it : ℕ × Term = (k, Var v) in
    elim (cases_Bool (ltb k f.0)) [
      | inl low ↦ ap (λ x. has (variables_in x) n) (cond-true (ltb k f.0) (it ∷ f ∷ fs) (f ∷ put_feature it fs) low)
      | inr high ↦
          ap (λ x. has (variables_in x) n) (cond-false (ltb k f.0) (it ∷ f ∷ fs) (f ∷ put_feature it fs) high)
          ∙ has_append (term_variables f.1) (variables_in (put_feature it fs)) n
          ∙ ap (λ b. has (term_variables f.1) n || b) (put_variables k v n fs)
          ∙ or_swap (has (term_variables f.1) n) (eqb n v) (has (variables_in fs) n)
          ∙ ap (λ b. eqb n v || b) (sym (has_append (term_variables f.1) (variables_in fs) n))
    ]

taken_variables : (n : ℕ) (fs : List (ℕ × Term)) (ts : List (ℕ × ℕ))
    → has (variables_in (with_taken fs ts)) n ≡ (has (map (λ t. t.1) ts) n || has (variables_in fs) n)
taken_variables n fs [] = refl
taken_variables n fs (t ∷ ts) =
    taken_variables n (put_feature (t.0, Var t.1) fs) ts
    ∙ ap (λ b. has (map (λ u. u.1) ts) n || b) (put_variables t.0 t.1 n fs)
    ∙ or_swap (has (map (λ u. u.1) ts) n) (eqb n t.1) (has (variables_in fs) n)
    ∙ sym (or_three (eqb n t.1) (has (map (λ u. u.1) ts) n) (has (variables_in fs) n))

names_variables : (t : Tables) (n : ℕ) (fs : List (ℕ × WrittenTerm))
    → (has (map (λ u. u.1) (taken_feats t fs)) n || has (variables_in (plain_feats t fs)) n) ≡ has (variable_numbers t (flat_map (λ f. term_names f.1) fs)) n
names_variables t n [] = refl
names_variables t n ((k, term.Atom w) ∷ fs) = names_variables t n fs
names_variables t n ((k, term.Variable w) ∷ fs) =
    let v = number_of t.variables w in
    or_swap (has (map (λ u. u.1) (taken_feats t fs)) n) (eqb n v) (has (variables_in (plain_feats t fs)) n) ∙ ap (λ b. eqb n v || b) (names_variables t n fs)
names_variables t n ((k, term.Taken w) ∷ fs) =
    let v = number_of t.variables w in
    or_three (eqb n v) (has (map (λ u. u.1) (taken_feats t fs)) n) (has (variables_in (plain_feats t fs)) n) ∙ ap (λ b. eqb n v || b) (names_variables t n fs)

pattern_has : (t : Tables) (n : ℕ) (c : WrittenCategory)
    → has (category_variables (whole (numbered_pattern t c))) n ≡ has (variable_numbers t (category_names t.features c)) n
pattern_has t n c =
    let fs = ordered t.features c in
    taken_variables n (plain_feats t fs) (taken_feats t fs) ∙ names_variables t n fs

-- what is there in two parts is there in their numbers
joined : (t : Tables) (n : ℕ) (xs ys : List ℕ) (vs ws : List (List ℕ)) → has xs n ≡ has (variable_numbers t vs) n → has ys n ≡ has (variable_numbers t ws) n
    → has (xs ++ ys) n ≡ has (variable_numbers t (vs ++ ws)) n
joined t n xs ys vs ws h k =
    has_append xs ys n
    ∙ ap (λ b. b || has ys n) h
    ∙ ap (λ b. has (variable_numbers t vs) n || b) k
    ∙ sym (has_append (variable_numbers t vs) (variable_numbers t ws) n)
    ∙ ap (λ zs. has zs n) (sym (map-append (number_of t.variables) vs ws))

patterns_have : (t : Tables) (n : ℕ) (cs : List WrittenCategory)
    → has (flat_map category_variables (map whole (map (numbered_pattern t) cs))) n ≡ has (variable_numbers t (flat_map (category_names t.features) cs)) n
patterns_have t n [] = refl
patterns_have t n (c ∷ cs) = joined t n (category_variables (whole (numbered_pattern t c)))
    (flat_map category_variables (map whole (map (numbered_pattern t) cs))) (category_names t.features c) (flat_map (category_names t.features) cs)
    (pattern_has t n c) (patterns_have t n cs)

one_has : (t : Tables) (n : ℕ) (c : WrittenCategory) → is_plain c ≡ true
    → has (category_variables (numbered_category t c) ++ []) n ≡ has (variable_numbers t (category_names t.features c)) n
one_has t n c h = ap (λ zs. has zs n) (one_numbered t c h)

element_has : (t : Tables) (n : ℕ) (e : WrittenElement) → element_fits e ≡ true
    → has (element_variables (numbered_element t e)) n ≡ has (variable_numbers t (element_names t.features e)) n
element_has t n (element.Terminal w) h = refl
element_has t n (element.Preterminal c) h = one_has t n c h
element_has t n (element.Sub c) h = one_has t n c h
element_has t n (element.Position w) h = refl
element_has t n element.Opener h = refl
element_has t n (element.Forward c) h = one_has t n c h
element_has t n (element.Strong c) h = one_has t n c h
element_has t n (element.Back ps ns) h =
    let positive = map whole (map (numbered_pattern t) ps) in
    let negative = map whole (map (numbered_pattern t) ns) in
    ap (λ zs. has zs n) (flat_map-append category_variables positive negative)
    ∙ joined t n (flat_map category_variables positive) (flat_map category_variables negative) (flat_map (category_names t.features) ps)
    (flat_map (category_names t.features) ns) (patterns_have t n ps) (patterns_have t n ns)
element_has t n (element.NoBack ps) h = patterns_have t n ps

body_has : (t : Tables) (n : ℕ) (es : List WrittenElement) → list_all element_fits es ≡ true
    → has (flat_map element_variables (map (numbered_element t) es)) n ≡ has (variable_numbers t (flat_map (element_names t.features) es)) n
body_has t n [] h = refl
body_has t n (e ∷ es) h =
    let parts = and_parts (element_fits e) (list_all element_fits es) h in
    joined t n (element_variables (numbered_element t e)) (flat_map element_variables (map (numbered_element t) es)) (element_names t.features e)
    (flat_map (element_names t.features) es) (element_has t n e parts.0) (body_has t n es parts.1)

-- the variables of a rule in numbers are those that it writes
pub variables_have : (t : Tables) (r : WrittenRule) (n : ℕ) → item_fits (item.Rule r) ≡ true
    → has (rule_variables (numbered_rule t r)) n
    ≡ has (map (number_of t.variables) (category_names t.features r.head ++ flat_map (element_names t.features) r.body)) n
variables_have t r n h =
    let parts = and_parts (is_plain r.head) (list_all element_fits r.body) h in
    joined t n (category_variables (numbered_category t r.head)) (flat_map element_variables (map (numbered_element t) r.body))
    (category_names t.features r.head) (flat_map (element_names t.features) r.body)
    (ap (λ zs. has zs n) (category_numbered t r.head parts.0)) (body_has t n r.body parts.1)

-- they are as many
pub variables_counted : (t : Tables) (r : WrittenRule) → item_fits (item.Rule r) ≡ true
    → count_different (rule_variables (numbered_rule t r))
    ≡ count_different (map (number_of t.variables) (category_names t.features r.head ++ flat_map (element_names t.features) r.body))
variables_counted t r h =
    let ws = category_names t.features r.head ++ flat_map (element_names t.features) r.body in
    count_same (rule_variables (numbered_rule t r)) (map (number_of t.variables) ws) (λ n. variables_have t r n h)
