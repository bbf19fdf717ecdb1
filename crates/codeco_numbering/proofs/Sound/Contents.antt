-- The atoms, terminals and categories of the grammar that declarations and rules make.
use Rattle.std.proofs.Common.{◌≡◌, ℕ, ◌+◌, ◌-◌, ◌<◌, Bool, true, ltb, List, [], ◌∷◌, ◌++◌, map, length, Option, Some, None, refl, sym, ap, subst, ◌∙◌, arith}
use Rattle.std.specs.Prelude.{codes}
use Rattle.std.specs.List.{list_all, flat_map}
use Rattle.std.proofs.lemmas.List.{map-append, length-append}
use Rattle.std.proofs.lemmas.Bool.{and_parts, lt-ltb, le-ltb, cond-true, cond-false}
use Rattle.codeco_terms.specs.declared.categories.Category.{Category}
use Rattle.codeco_terms.specs.declared.rules.Rule.{Rule}
use Rattle.codeco_text.specs.declared.written.WrittenCategory.{WrittenCategory}
use Rattle.codeco_text.specs.declared.written.WrittenElement.{WrittenElement}
use Rattle.codeco_text.specs.declared.written.WrittenElement.TheVariants as element
use Rattle.codeco_text.specs.declared.written.WrittenRule.{WrittenRule}
use Rattle.codeco_text.specs.declared.written.Domain.{Domain}
use Rattle.codeco_text.specs.declared.written.Domain.TheVariants as domain
use Rattle.codeco_text.specs.declared.written.WrittenItem.{WrittenItem}
use Rattle.codeco_text.specs.Names.{is_among}
use Rattle.codeco_text.specs.Notation.{kinds}
use Rattle.codeco_checked.specs.Occurrences.{whole, mentions, rule_mentions, element_terminals, rule_terminals}
use Rattle.codeco_checked.specs.Numbering.{counts_up, first_atoms, declared_atoms, grammar_atoms, grammar_names, grammar_terminals}
use Rattle.codeco_numbering.specs.Numbered.{gathered, number_of, NamedFeature, all_features, feature_atoms, atoms_of, numbered_domain, numbered_feature, rules_of, Tables, numbered_pattern, numbered_element, variable_names, numbered_rule, plain_categories, rule_names, written_terminals, numbered_of}
use Rattle.codeco_numbering.proofs.Sound.Tables.{number_below, gathered_counts_up}
use Rattle.codeco_numbering.proofs.Sound.Lowered.{lowered, lowered_append, raised_counts}
use Rattle.codeco_numbering.proofs.Sound.Features.{feature_names}
use Rattle.codeco_numbering.proofs.Sound.Spelled.{feat_spelled, element_spelled}

-- the tables by which a rule of these declarations and rules is numbered
abbrev pub terminals_of : List WrittenItem → List (List ℕ)
terminals_of items = gathered [] (flat_map (λ r. flat_map written_terminals r.body) (rules_of items))

abbrev pub categories_of : List WrittenItem → List (List ℕ)
categories_of items = gathered (codes "text" ∷ []) (flat_map rule_names (rules_of items))

abbrev pub tables_of : List WrittenItem → WrittenRule → Tables
tables_of items r = record {
  features = feature_names (all_features items);
  atoms = atoms_of (all_features items);
  terminals = terminals_of items;
  categories = categories_of items;
  variables = variable_names (feature_names (all_features items)) r;
}

abbrev pub numbered_in : List WrittenItem → WrittenRule → Rule
numbered_in items r = numbered_rule (tables_of items r) r

-- Atoms

pub domain_numbers : (atoms : List (List ℕ)) (d : Option Domain) → declared_atoms (numbered_domain atoms d) ≡ map (number_of atoms) (feature_atoms d)
domain_numbers atoms None = refl
domain_numbers atoms (Some domain.Words) = refl
domain_numbers atoms (Some domain.Positions) = refl
domain_numbers atoms (Some (domain.Atoms names)) = refl

pub atoms_numbered : (atoms : List (List ℕ)) (fs : List NamedFeature)
    → flat_map (λ f. declared_atoms f.declared) (map (numbered_feature atoms) fs) ≡ map (number_of atoms) (flat_map (λ f. feature_atoms f.domain) fs)
atoms_numbered atoms [] = refl
atoms_numbered atoms (f ∷ fs) =
    ap (λ (x : List ℕ). x ++ flat_map (λ y. declared_atoms y.declared) (map (numbered_feature atoms) fs)) (domain_numbers atoms f.domain)
    ∙ ap (λ (x : List ℕ). map (number_of atoms) (feature_atoms f.domain) ++ x) (atoms_numbered atoms fs)
    ∙ sym (map-append (number_of atoms) (feature_atoms f.domain) (flat_map (λ y. feature_atoms y.domain) fs))

pub atoms_count_up : (items : List WrittenItem) → counts_up 7 (length (atoms_of (all_features items))) (grammar_atoms (numbered_of items)) ≡ true
atoms_count_up items =
    let fs = all_features items in
    ap (counts_up 7 (length (atoms_of fs))) (atoms_numbered (atoms_of fs) fs) ∙ gathered_counts_up first_atoms (flat_map (λ f. feature_atoms f.domain) fs)

-- Terminals

pub element_numbers : (t : Tables) (e : WrittenElement) → element_terminals (numbered_element t e) ≡ map (number_of t.terminals) (written_terminals e)
element_numbers t (element.Terminal w) = refl
element_numbers t e = refl

pub body_numbers : (t : Tables) (es : List WrittenElement)
    → flat_map element_terminals (map (numbered_element t) es) ≡ map (number_of t.terminals) (flat_map written_terminals es)
body_numbers t [] = refl
body_numbers t (e ∷ es) =
    ap (λ (x : List ℕ). x ++ flat_map element_terminals (map (numbered_element t) es)) (element_numbers t e)
    ∙ ap (λ (x : List ℕ). map (number_of t.terminals) (written_terminals e) ++ x) (body_numbers t es)
    ∙ sym (map-append (number_of t.terminals) (written_terminals e) (flat_map written_terminals es))

terminals_numbered : (items : List WrittenItem) (rs : List WrittenRule)
    → flat_map rule_terminals (map (numbered_in items) rs) ≡ map (number_of (terminals_of items)) (flat_map (λ r. flat_map written_terminals r.body) rs)
terminals_numbered items [] = refl
terminals_numbered items (r ∷ rs) =
    ap (λ (x : List ℕ). x ++ flat_map rule_terminals (map (numbered_in items) rs)) (body_numbers (tables_of items r) r.body)
    ∙ ap (λ (x : List ℕ). map (number_of (terminals_of items)) (flat_map written_terminals r.body) ++ x) (terminals_numbered items rs)
    ∙ sym (map-append (number_of (terminals_of items)) (flat_map written_terminals r.body) (flat_map (λ y. flat_map written_terminals y.body) rs))

pub terminals_count_up : (items : List WrittenItem) → counts_up 0 (length (terminals_of items)) (grammar_terminals (numbered_of items)) ≡ true
terminals_count_up items =
    ap (counts_up 0 (length (terminals_of items))) (terminals_numbered items (rules_of items))
    ∙ gathered_counts_up [] (flat_map (λ r. flat_map written_terminals r.body) (rules_of items))

-- Categories

abbrev names_in : List Category → List ℕ
names_in cs = map (λ c. c.name) cs

abbrev written_names : List WrittenCategory → List (List ℕ)
written_names cs = map (λ c. c.name) cs

-- a category that is no preterminal is one of the numbers from 5 on
raised : (n : ℕ) (ns : List ℕ) → lowered ((5 + n) ∷ ns) ≡ n ∷ lowered ns
raised n ns =
    let back : 5 + n - 5 ≡ n = omega arith in
    cond-false (ltb (5 + n) 5) (lowered ns) ((5 + n - 5) ∷ lowered ns) (le-ltb (5 + n) 5 (omega arith)) ∙ ap (λ (m : ℕ). m ∷ lowered ns) back

kind_below : (w : List ℕ) → is_among kinds w ≡ true → number_of kinds w < 5
kind_below w h = number_below kinds w h

patterns_lowered : (t : Tables) (cs : List WrittenCategory)
    → lowered (names_in (map whole (map (numbered_pattern t) cs))) ≡ map (number_of t.categories) (written_names cs)
patterns_lowered t [] = refl
patterns_lowered t (c ∷ cs) =
    let n = number_of t.categories c.name in
    raised n (names_in (map whole (map (numbered_pattern t) cs))) ∙ ap (λ (x : List ℕ). n ∷ x) (patterns_lowered t cs)

element_lowered : (t : Tables) (e : WrittenElement) → element_spelled e ≡ true
    → lowered (names_in (mentions (numbered_element t e))) ≡ map (number_of t.categories) (written_names (plain_categories e))
element_lowered t (element.Terminal w) h = refl
element_lowered t (element.Preterminal c) h =
    let n = number_of kinds c.name in
    let lt = kind_below c.name (and_parts (is_among kinds c.name) (list_all feat_spelled c.feats) h).0 in
    cond-true (ltb n 5) [] ((n - 5) ∷ []) (lt-ltb n 5 lt)
element_lowered t (element.Sub c) h = raised (number_of t.categories c.name) []
element_lowered t (element.Position w) h = refl
element_lowered t element.Opener h = refl
element_lowered t (element.Forward c) h = raised (number_of t.categories c.name) []
element_lowered t (element.Strong c) h = raised (number_of t.categories c.name) []
element_lowered t (element.Back ps ns) h =
    let positive = map whole (map (numbered_pattern t) ps) in
    let negative = map whole (map (numbered_pattern t) ns) in
    ap lowered (map-append (λ c. c.name) positive negative)
    ∙ lowered_append (names_in positive) (names_in negative)
    ∙ ap (λ (x : List ℕ). x ++ lowered (names_in negative)) (patterns_lowered t ps)
    ∙ ap (λ (x : List ℕ). map (number_of t.categories) (written_names ps) ++ x) (patterns_lowered t ns)
    ∙ sym (map-append (number_of t.categories) (written_names ps) (written_names ns))
    ∙ ap (map (number_of t.categories)) (sym (map-append (λ c. c.name) ps ns))
element_lowered t (element.NoBack ps) h = patterns_lowered t ps

body_lowered : (t : Tables) (es : List WrittenElement) → list_all element_spelled es ≡ true
    → lowered (names_in (flat_map mentions (map (numbered_element t) es))) ≡ map (number_of t.categories) (written_names (flat_map plain_categories es))
body_lowered t [] h = refl
body_lowered t (e ∷ es) h =
    let parts = and_parts (element_spelled e) (list_all element_spelled es) h in
    let here = mentions (numbered_element t e) in
    let rest = flat_map mentions (map (numbered_element t) es) in
    ap lowered (map-append (λ c. c.name) here rest)
    ∙ lowered_append (names_in here) (names_in rest)
    ∙ ap (λ (x : List ℕ). x ++ lowered (names_in rest)) (element_lowered t e parts.0)
    ∙ ap (λ (x : List ℕ). map (number_of t.categories) (written_names (plain_categories e)) ++ x) (body_lowered t es parts.1)
    ∙ sym (map-append (number_of t.categories) (written_names (plain_categories e)) (written_names (flat_map plain_categories es)))
    ∙ ap (map (number_of t.categories)) (sym (map-append (λ c. c.name) (plain_categories e) (flat_map plain_categories es)))

abbrev pub body_spelled : WrittenRule → Bool
body_spelled r = list_all element_spelled r.body

rules_lowered : (items : List WrittenItem) (rs : List WrittenRule) → list_all body_spelled rs ≡ true
    → lowered (flat_map (λ r. map (λ c. c.name) (rule_mentions r)) (map (numbered_in items) rs))
    ≡ map (number_of (categories_of items)) (flat_map rule_names rs)
rules_lowered items [] h = refl
rules_lowered items (r ∷ rs) h =
    let parts = and_parts (body_spelled r) (list_all body_spelled rs) h in
    let t = tables_of items r in
    let here = names_in (rule_mentions (numbered_in items r)) in
    let rest = flat_map (λ y. map (λ c. c.name) (rule_mentions y)) (map (numbered_in items) rs) in
    let n = number_of (categories_of items) r.head.name in
    let first : lowered here ≡ map (number_of (categories_of items)) (rule_names r) =
    raised n (names_in (flat_map mentions (map (numbered_element t) r.body))) ∙ ap (λ (x : List ℕ). n ∷ x) (body_lowered t r.body parts.0) in
    lowered_append here rest
    ∙ ap (λ (x : List ℕ). x ++ lowered rest) first
    ∙ ap (λ (x : List ℕ). map (number_of (categories_of items)) (rule_names r) ++ x) (rules_lowered items rs parts.1)
    ∙ sym (map-append (number_of (categories_of items)) (rule_names r) (flat_map rule_names rs))

pub categories_count_up : (items : List WrittenItem) → list_all body_spelled (rules_of items) ≡ true
    → counts_up 6 (length (kinds ++ categories_of items)) (grammar_names (numbered_of items)) ≡ true
categories_count_up items h =
    let others = categories_of items in
    let long : length (kinds ++ others) ≡ 5 + length others = length-append kinds others in
    let total : length others + 5 ≡ length (kinds ++ others) = omega arith in
    let counts : counts_up 1 (length others) (lowered (grammar_names (numbered_of items))) ≡ true =
    ap (counts_up 1 (length others)) (rules_lowered items (rules_of items) h)
    ∙ gathered_counts_up (codes "text" ∷ []) (flat_map rule_names (rules_of items)) in
    subst (λ (n : ℕ). counts_up 6 n (grammar_names (numbered_of items)) ≡ true) total
    (raised_counts 1 (length others) (grammar_names (numbered_of items)) counts)
