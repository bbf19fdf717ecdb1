-- The variables of a rule in numbers are those that it writes, in order.
use Rattle.std.proofs.Common.{◌≡◌, ℕ, Bool, true, false, not, List, [], ◌∷◌, ◌++◌, map, refl, sym, ap, ◌∙◌}
use Rattle.std.specs.List.{list_all, list_any, flat_map}
use Rattle.std.proofs.lemmas.List.{append-nil, map-append}
use Rattle.std.proofs.lemmas.List.Concat.{flat_map-append}
use Rattle.std.proofs.lemmas.Bool.{and_parts, not_from_false}
use Rattle.codeco_terms.specs.declared.categories.Category.{Category}
use Rattle.codeco_text.specs.declared.written.WrittenCategory.{WrittenCategory}
use Rattle.codeco_text.specs.declared.written.WrittenElement.{WrittenElement}
use Rattle.codeco_text.specs.declared.written.WrittenElement.TheVariants as element
use Rattle.codeco_text.specs.declared.written.WrittenRule.{WrittenRule}
use Rattle.codeco_text.specs.declared.written.WrittenItem.TheVariants as item
use Rattle.codeco_text.specs.Notation.{is_plain, element_fits, item_fits}
use Rattle.codeco_checked.specs.Occurrences.{with_taken, whole, mentions, rule_mentions, term_variables, category_variables, element_variables, rule_variables}
use Rattle.codeco_checked.specs.Faults.{is_double, has_double_feature}
use Rattle.codeco_numbering.specs.Numbered.{number_of, ordered, category_names, Tables, plain_feats, taken_feats, numbered_category, numbered_pattern, numbered_element, element_names, numbered_rule}
use Rattle.wiki_base.proofs.ListLaws.{all_split, none_each}
use Rattle.codeco_numbering.proofs.Sound.Order.{order_rises, ordered_plain, every_feat, plain_every, whole_every, every_variables}
use Rattle.codeco_numbering.proofs.Sound.Doubles.{stands_apart}

-- the numbers of variables
abbrev pub variable_numbers : Tables → List (List ℕ) → List ℕ
variable_numbers t ws = map (number_of t.variables) ws

-- no feature stands twice in the category
abbrev pub is_single : Category → Bool
is_single c = not (is_double (map (λ f. f.0) c.feats))

pub category_numbered : (t : Tables) (c : WrittenCategory) → is_plain c ≡ true
    → category_variables (numbered_category t c) ≡ variable_numbers t (category_names t.features c)
category_numbered t c h =
    let fs = ordered t.features c in
    ap (λ xs. flat_map (λ f. term_variables f.1) xs) (plain_every t fs (ordered_plain t.features c h)) ∙ every_variables t fs

pub one_numbered : (t : Tables) (c : WrittenCategory) → is_plain c ≡ true
    → category_variables (numbered_category t c) ++ [] ≡ variable_numbers t (category_names t.features c)
one_numbered t c h = append-nil (category_variables (numbered_category t c)) ∙ category_numbered t c h

-- the features of a pattern are those that it writes, in order
pub pattern_feats : (t : Tables) (c : WrittenCategory) → is_single (whole (numbered_pattern t c)) ≡ true
    → (whole (numbered_pattern t c)).feats ≡ every_feat t (ordered t.features c)
pattern_feats t c h =
    let fs = ordered t.features c in
    let rises = order_rises (map (λ f. (number_of t.features f.name, f.term)) c.feats) in
    whole_every t 0 fs rises (stands_apart t fs rises (not_single (is_double (map (λ f. f.0) (with_taken (plain_feats t fs) (taken_feats t fs)))) h))
  where
    not_single : (b : Bool) → not b ≡ true → b ≡ false
    not_single true e = sym e
    not_single false e = refl

patterns_numbered : (t : Tables) (cs : List WrittenCategory) → list_all is_single (map whole (map (numbered_pattern t) cs)) ≡ true
    → flat_map category_variables (map whole (map (numbered_pattern t) cs)) ≡ variable_numbers t (flat_map (category_names t.features) cs)
patterns_numbered t [] h = refl
patterns_numbered t (c ∷ cs) h =
    let parts = and_parts (is_single (whole (numbered_pattern t c))) (list_all is_single (map whole (map (numbered_pattern t) cs))) h in
    let fs = ordered t.features c in
    let here : category_variables (whole (numbered_pattern t c)) ≡ variable_numbers t (category_names t.features c) =
    ap (λ xs. flat_map (λ f. term_variables f.1) xs) (pattern_feats t c parts.0) ∙ every_variables t fs in
    ap (λ (x : List ℕ). x ++ flat_map category_variables (map whole (map (numbered_pattern t) cs))) here
    ∙ ap (λ (x : List ℕ). variable_numbers t (category_names t.features c) ++ x) (patterns_numbered t cs parts.1)
    ∙ sym (map-append (number_of t.variables) (category_names t.features c) (flat_map (category_names t.features) cs))

element_numbered : (t : Tables) (e : WrittenElement) → element_fits e ≡ true → list_all is_single (mentions (numbered_element t e)) ≡ true
    → element_variables (numbered_element t e) ≡ variable_numbers t (element_names t.features e)
element_numbered t (element.Terminal w) h s = refl
element_numbered t (element.Preterminal c) h s = one_numbered t c h
element_numbered t (element.Sub c) h s = one_numbered t c h
element_numbered t (element.Position w) h s = refl
element_numbered t element.Opener h s = refl
element_numbered t (element.Forward c) h s = one_numbered t c h
element_numbered t (element.Strong c) h s = one_numbered t c h
element_numbered t (element.Back ps ns) h s =
    let positive = map whole (map (numbered_pattern t) ps) in
    let negative = map whole (map (numbered_pattern t) ns) in
    let parts = all_split is_single positive negative s in
    flat_map-append category_variables positive negative
    ∙ ap (λ (x : List ℕ). x ++ flat_map category_variables negative) (patterns_numbered t ps parts.0)
    ∙ ap (λ (x : List ℕ). variable_numbers t (flat_map (category_names t.features) ps) ++ x) (patterns_numbered t ns parts.1)
    ∙ sym (map-append (number_of t.variables) (flat_map (category_names t.features) ps) (flat_map (category_names t.features) ns))
element_numbered t (element.NoBack ps) h s = patterns_numbered t ps s

body_numbered : (t : Tables) (es : List WrittenElement) → list_all element_fits es ≡ true
    → list_all is_single (flat_map mentions (map (numbered_element t) es)) ≡ true
    → flat_map element_variables (map (numbered_element t) es) ≡ variable_numbers t (flat_map (element_names t.features) es)
body_numbered t [] h s = refl
body_numbered t (e ∷ es) h s =
    let parts = and_parts (element_fits e) (list_all element_fits es) h in
    let singles = all_split is_single (mentions (numbered_element t e)) (flat_map mentions (map (numbered_element t) es)) s in
    ap (λ (x : List ℕ). x ++ flat_map element_variables (map (numbered_element t) es)) (element_numbered t e parts.0 singles.0)
    ∙ ap (λ (x : List ℕ). variable_numbers t (element_names t.features e) ++ x) (body_numbered t es parts.1 singles.1)
    ∙ sym (map-append (number_of t.variables) (element_names t.features e) (flat_map (element_names t.features) es))

all_single : (cs : List Category) → list_any (λ c. is_double (map (λ f. f.0) c.feats)) cs ≡ false → list_all is_single cs ≡ true
all_single cs h = none_each (λ c. is_double (map (λ f. f.0) c.feats)) is_single (λ c e. not_from_false (is_double (map (λ f. f.0) c.feats)) e) cs h

-- In a rule that writes no feature twice in a category, the variables are those that it writes, in order.
pub variables_numbered : (t : Tables) (r : WrittenRule) → item_fits (item.Rule r) ≡ true → has_double_feature (numbered_rule t r) ≡ false
    → rule_variables (numbered_rule t r) ≡ map (number_of t.variables) (category_names t.features r.head ++ flat_map (element_names t.features) r.body)
variables_numbered t r h d =
    let parts = and_parts (is_plain r.head) (list_all element_fits r.body) h in
    let heads = numbered_category t r.head in
    let singles = and_parts (is_single heads) (list_all is_single (flat_map mentions (map (numbered_element t) r.body)))
    (all_single (rule_mentions (numbered_rule t r)) d) in
    ap (λ (x : List ℕ). x ++ flat_map element_variables (map (numbered_element t) r.body)) (category_numbered t r.head parts.0)
    ∙ ap (λ (x : List ℕ). variable_numbers t (category_names t.features r.head) ++ x) (body_numbered t r.body parts.1 singles.1)
    ∙ sym (map-append (number_of t.variables) (category_names t.features r.head) (flat_map (element_names t.features) r.body))
