-- The declarations and rules of a sound grammar make that grammar.
use Rattle.std.proofs.Common.{subst, ◌≡◌, ℕ, zero, suc, Bool, true, false, not, ◌&&◌, eqb, ltb, List, [], ◌∷◌, ◌++◌, map, length, drop, Option, Some, None, refl, sym, ap, ◌∙◌, append_assoc}
use Rattle.std.specs.Prelude.{codes}
use Rattle.std.specs.List.{list_all, flat_map}
use Rattle.std.proofs.lemmas.List.{append-nil, map-append}
use Rattle.std.proofs.lemmas.List.Concat.{flat_map-append}
use Rattle.std.proofs.lemmas.Bool.{and_parts, and_from, and_left, or_parts, or_left, not-true, not-false, not_from_false, cond-true, cond-false, false_from_ne_true, ltb-true}
use Rattle.codeco_terms.specs.declared.elements.Element.{Element}
use Rattle.codeco_terms.specs.declared.elements.Element.TheVariants.{Terminal}
use Rattle.codeco_terms.specs.declared.declarations.Declared.{Declared}
use Rattle.codeco_terms.specs.declared.declarations.Declared.TheVariants as declared
use Rattle.codeco_terms.specs.declared.declarations.Feature.{Feature}
use Rattle.codeco_terms.specs.declared.rules.Rule.{Rule}
use Rattle.codeco_terms.specs.GrammarParts.{GrammarParts}
use Rattle.codeco_text.specs.declared.written.WrittenRule.{WrittenRule}
use Rattle.codeco_text.specs.declared.written.Domain.{Domain}
use Rattle.codeco_text.specs.declared.written.Domain.TheVariants as domain
use Rattle.codeco_text.specs.declared.written.WrittenItem.{WrittenItem}
use Rattle.codeco_text.specs.declared.written.WrittenItem.TheVariants as item
use Rattle.codeco_text.specs.Names.{same_bytes, is_among}
use Rattle.codeco_text.specs.Notation.{kinds}
use Rattle.codeco_text.proofs.Growth.{same_is, same_bytes_refl}
use Rattle.codeco_checked.specs.declared.fault.GrammarFault.TheVariants as fault
use Rattle.codeco_checked.specs.Occurrences.{element_terminals, rule_terminals}
use Rattle.codeco_checked.specs.Numbering.{differ, begins_with, first_features, first_atoms, declared_atoms, grammar_atoms, grammar_terminals, is_declared}
use Rattle.codeco_checked.specs.Faults.{is_double, has_double_declaration, is_bad_rule, at_rule}
use Rattle.codeco_checked.specs.Sound.{IsSound}
use Rattle.std.specs.List.{list_any}
use Rattle.codeco_printer.specs.Unnumbered.{name_at, written_element, written_rule, declaration, written_feature, written_of}
use Rattle.codeco_numbering.specs.Numbered.{gathered, number_of, NamedFeature, undeclared, is_open, with_declaration, with_item, with_items, with_undeclared, written_features, all_features, feature_atoms, atoms_of, numbered_domain, numbered_feature, item_rules, rules_of, rule_names, written_terminals, variable_names, numbered_rule, numbered_of}
use Rattle.codeco_numbering.proofs.Sound.Features.{none_undeclared}
use Rattle.wiki_base.proofs.ListLaws.{all_append, all_flat, all_weaken, all_both}
use Rattle.codeco_checked.proofs.NumberingLemmas.{counted}
use Rattle.codeco_printer.proofs.SoundNumbers.{is_fine, all_fine}
use Rattle.codeco_numbering.proofs.Sound.Tables.{differs_comm}
use Rattle.codeco_printer.proofs.Tables.{number_at, gathered_counts, begins_take}
use Rattle.codeco_printer.proofs.CategoriesBack.{first_kinds, kinds_first, categories_back}
use Rattle.codeco_printer.proofs.DeclaredFeatures.{features_are_declared}
use Rattle.codeco_printer.proofs.RuleBack.{feature_names, Differs, rule_tables, rule_back}

-- Features

abbrev domain_of : GrammarParts → Declared → Option Domain
domain_of g declared.Undeclared = None
domain_of g declared.Words = Some domain.Words
domain_of g declared.Positions = Some domain.Positions
domain_of g (declared.Atoms atoms) = Some (domain.Atoms (map (name_at g.atoms) atoms))

abbrev with_domain : GrammarParts → List ℕ → Declared → NamedFeature
with_domain g name d = record { name = name; domain = domain_of g d }

abbrev named_feature : GrammarParts → Feature → NamedFeature
named_feature g f = with_domain g f.name f.declared

-- the first n features, without declarations
abbrev opens : ℕ → List Feature → List NamedFeature
opens zero fs = []
opens (suc n) [] = []
opens (suc n) (f ∷ fs) = undeclared f.name ∷ opens n fs

abbrev takes : List ℕ → NamedFeature → Bool
takes name x = same_bytes name x.name && is_open x.domain

-- a declaration of this name goes past these features
abbrev clear : List NamedFeature → List ℕ → Bool
clear done name = list_all (λ x. not (takes name x)) done

goes_past : (done rest : List NamedFeature) (name : List ℕ) (d : Domain) → clear done name ≡ true
    → with_declaration (done ++ rest) name d ≡ done ++ with_declaration rest name d
goes_past [] rest name d h = refl
goes_past (x ∷ xs) rest name d h =
    let parts = and_parts (not (takes name x)) (clear xs name) h in
    cond-false (takes name x) (record { name = name; domain = Some d } ∷ (xs ++ rest)) (x ∷ with_declaration (xs ++ rest) name d)
    (not-true (takes name x) parts.0)
    ∙ ap (λ (ys : List NamedFeature). x ∷ ys) (goes_past xs rest name d parts.1)

declares : (done os : List NamedFeature) (name : List ℕ) (d : Domain) → clear done name ≡ true
    → with_declaration (done ++ undeclared name ∷ os) name d ≡ done ++ record { name = name; domain = Some d } ∷ os
declares done os name d h =
    goes_past done (undeclared name ∷ os) name d h
    ∙ ap (λ (x : List NamedFeature). done ++ x)
    (cond-true (takes name (undeclared name)) (record { name = name; domain = Some d } ∷ os) (undeclared name ∷ with_declaration os name d)
    (and_from (same_bytes name name) true (same_bytes_refl name) refl))

step_open : (g : GrammarParts) (done os : List NamedFeature) (name : List ℕ) (d : Declared) (more : List WrittenItem) → clear done name ≡ true
    → with_items (done ++ undeclared name ∷ os) (declaration g name d ++ more) ≡ with_items (done ++ with_domain g name d ∷ os) more
step_open g done os name declared.Undeclared more h = refl
step_open g done os name declared.Words more h = ap (λ (x : List NamedFeature). with_items x more) (declares done os name domain.Words h)
step_open g done os name declared.Positions more h = ap (λ (x : List NamedFeature). with_items x more) (declares done os name domain.Positions h)
step_open g done os name (declared.Atoms atoms) more h =
    ap (λ (x : List NamedFeature). with_items x more) (declares done os name (domain.Atoms (map (name_at g.atoms) atoms)) h)

step_new : (g : GrammarParts) (done : List NamedFeature) (name : List ℕ) (d : Declared) (more : List WrittenItem) → is_declared d ≡ true
    → clear done name ≡ true → with_items (done ++ []) (declaration g name d ++ more) ≡ with_items (done ++ with_domain g name d ∷ []) more
step_new g done name declared.Undeclared more i h = absurd cc
step_new g done name declared.Words more i h = ap (λ (x : List NamedFeature). with_items x more) (goes_past done [] name domain.Words h)
step_new g done name declared.Positions more i h = ap (λ (x : List NamedFeature). with_items x more) (goes_past done [] name domain.Positions h)
step_new g done name (declared.Atoms atoms) more i h =
    ap (λ (x : List NamedFeature). with_items x more) (goes_past done [] name (domain.Atoms (map (name_at g.atoms) atoms)) h)

fresh_names : (x : NamedFeature) (fs : List Feature) → is_among (map (λ f. f.name) fs) x.name ≡ false → list_all (λ f. not (takes f.name x)) fs ≡ true
fresh_names x [] h = refl
fresh_names x (f ∷ fs) h =
    let parts = or_parts (same_bytes x.name f.name) (is_among (map (λ y. y.name) fs) x.name) h in
    and_from (not (takes f.name x)) (list_all (λ y. not (takes y.name x)) fs)
    (not_from_false (takes f.name x) (and_left (same_bytes f.name x.name) (is_open x.domain) (differs_comm x.name f.name parts.0)))
    (fresh_names x fs parts.1)

clear_more : (done : List NamedFeature) (x : NamedFeature) (fs : List Feature) → list_all (λ f. clear done f.name) fs ≡ true
    → is_among (map (λ f. f.name) fs) x.name ≡ false → list_all (λ f. clear (done ++ x ∷ []) f.name) fs ≡ true
clear_more done x fs h k =
    all_weaken (λ f. clear done f.name && not (takes f.name x)) (λ f. clear (done ++ x ∷ []) f.name)
    (λ f q.
    let parts = and_parts (clear done f.name) (not (takes f.name x)) q in
    all_append (λ y. not (takes f.name y)) done (x ∷ []) parts.0 (and_from (not (takes f.name x)) true parts.1 refl))
    fs (all_both (λ f. clear done f.name) (λ f. not (takes f.name x)) fs h (fresh_names x fs k))

items_named : (g : GrammarParts) (n : ℕ) (done : List NamedFeature) (rest : List Feature) → differ (map (λ f. f.name) rest) ≡ true
    → list_all (λ f. is_declared f.declared) (drop n rest) ≡ true → list_all (λ f. clear done f.name) rest ≡ true
    → with_items (done ++ opens n rest) (flat_map (written_feature g) rest) ≡ done ++ map (named_feature g) rest
items_named g zero done [] d h c = refl
items_named g (suc n) done [] d h c = refl
items_named g zero done (f ∷ fs) d h c =
    let ds = and_parts (not (is_among (map (λ x. x.name) fs) f.name)) (differ (map (λ x. x.name) fs)) d in
    let hs = and_parts (is_declared f.declared) (list_all (λ x. is_declared x.declared) fs) h in
    let cs = and_parts (clear done f.name) (list_all (λ x. clear done x.name) fs) c in
    let next = done ++ named_feature g f ∷ [] in
    let more = flat_map (written_feature g) fs in
    step_new g done f.name f.declared more hs.0 cs.0
    ∙ ap (λ (x : List NamedFeature). with_items x more) (sym (append-nil next))
    ∙ items_named g zero next fs ds.1 hs.1 (clear_more done (named_feature g f) fs cs.1 (not-true (is_among (map (λ x. x.name) fs) f.name) ds.0))
    ∙ append_assoc done (named_feature g f ∷ []) (map (named_feature g) fs)
items_named g (suc n) done (f ∷ fs) d h c =
    let ds = and_parts (not (is_among (map (λ x. x.name) fs) f.name)) (differ (map (λ x. x.name) fs)) d in
    let cs = and_parts (clear done f.name) (list_all (λ x. clear done x.name) fs) c in
    let next = done ++ named_feature g f ∷ [] in
    let more = flat_map (written_feature g) fs in
    step_open g done (opens n fs) f.name f.declared more cs.0
    ∙ ap (λ (x : List NamedFeature). with_items x more) (sym (append_assoc done (named_feature g f ∷ []) (opens n fs)))
    ∙ items_named g n next fs ds.1 h (clear_more done (named_feature g f) fs cs.1 (not-true (is_among (map (λ x. x.name) fs) f.name) ds.0))
    ∙ append_assoc done (named_feature g f ∷ []) (map (named_feature g) fs)

opens_first : (xs : List (List ℕ)) (fs : List Feature) → begins_with xs (map (λ f. f.name) fs) ≡ true → opens (length xs) fs ≡ map undeclared xs
opens_first [] fs h = refl
opens_first (x ∷ xs) [] h = absurd cc
opens_first (x ∷ xs) (f ∷ fs) h =
    let parts = and_parts (same_bytes x f.name) (begins_with xs (map (λ y. y.name) fs)) h in
    ap (λ (w : List ℕ). undeclared w ∷ opens (length xs) fs) (sym (same_is x f.name parts.0))
    ∙ ap (λ (ys : List NamedFeature). undeclared x ∷ ys) (opens_first xs fs parts.1)

with_items_append : (fs : List NamedFeature) (xs ys : List WrittenItem) → with_items fs (xs ++ ys) ≡ with_items (with_items fs xs) ys
with_items_append fs [] ys = refl
with_items_append fs (x ∷ xs) ys = with_items_append (with_item fs x) xs ys

rules_add_none : (g : GrammarParts) (fs : List NamedFeature) (rs : List Rule) → with_items fs (map (λ r. item.Rule (written_rule g r)) rs) ≡ fs
rules_add_none g fs [] = refl
rules_add_none g fs (r ∷ rs) = rules_add_none g fs rs

all_clear : (fs : List Feature) → list_all (λ f. clear [] f.name) fs ≡ true
all_clear [] = refl
all_clear (f ∷ fs) = all_clear fs

features_differ : (g : GrammarParts) → IsSound g → differ (feature_names g) ≡ true
features_differ g s =
    let none : has_double_declaration g ≡ false =
    false_from_ne_true (has_double_declaration g)
    (λ e. s.faultless (fault.BadValue 0) (or_left (eqb 0 0 && has_double_declaration g) (at_rule (is_bad_rule g) g.rules 0) e)) in
    not-false (differ (feature_names g)) (or_parts (not (differ (feature_names g))) (list_any (λ f. is_double (declared_atoms f.declared)) g.features) none).0

-- Atoms

domain_names : (g : GrammarParts) (d : Declared) → feature_atoms (domain_of g d) ≡ map (name_at g.atoms) (declared_atoms d)
domain_names g declared.Undeclared = refl
domain_names g declared.Words = refl
domain_names g declared.Positions = refl
domain_names g (declared.Atoms atoms) = refl

atom_names : (g : GrammarParts) (fs : List Feature)
    → flat_map (λ f. feature_atoms f.domain) (map (named_feature g) fs) ≡ map (name_at g.atoms) (flat_map (λ f. declared_atoms f.declared) fs)
atom_names g [] = refl
atom_names g (f ∷ fs) =
    ap (λ (x : List (List ℕ)). x ++ flat_map (λ h. feature_atoms h.domain) (map (named_feature g) fs)) (domain_names g f.declared)
    ∙ ap (λ (x : List (List ℕ)). map (name_at g.atoms) (declared_atoms f.declared) ++ x) (atom_names g fs)
    ∙ sym (map-append (name_at g.atoms) (declared_atoms f.declared) (flat_map (λ h. declared_atoms h.declared) fs))

atoms_back : (g : GrammarParts) → IsSound g → atoms_of (map (named_feature g) g.features) ≡ g.atoms
atoms_back g s =
    ap (gathered first_atoms) (atom_names g g.features)
    ∙ ap (λ (x : List (List ℕ)). gathered x (map (name_at g.atoms) (grammar_atoms g))) (sym (begins_take first_atoms g.atoms s.numbered.first_atoms))
    ∙ gathered_counts g.atoms 7 (grammar_atoms g) s.numbered.different_atoms s.numbered.atoms

numbers_back : (names : List (List ℕ)) (ns : List ℕ) → differ names ≡ true → list_all (λ n. ltb n (length names)) ns ≡ true
    → map (number_of names) (map (name_at names) ns) ≡ ns
numbers_back names [] d h = refl
numbers_back names (n ∷ ns) d h =
    let parts = and_parts (ltb n (length names)) (list_all (λ m. ltb m (length names)) ns) h in
    ap (λ m. m ∷ map (number_of names) (map (name_at names) ns)) (number_at names n d (ltb-true n (length names) parts.0))
    ∙ ap (λ (x : List ℕ). n ∷ x) (numbers_back names ns d parts.1)

domain_back : (g : GrammarParts) (d : Declared) → differ g.atoms ≡ true → list_all (λ n. ltb n (length g.atoms)) (declared_atoms d) ≡ true
    → numbered_domain g.atoms (domain_of g d) ≡ d
domain_back g declared.Undeclared e h = refl
domain_back g declared.Words e h = refl
domain_back g declared.Positions e h = refl
domain_back g (declared.Atoms atoms) e h = ap declared.Atoms (numbers_back g.atoms atoms e h)

features_back : (g : GrammarParts) (fs : List Feature) → differ g.atoms ≡ true
    → list_all (λ f. list_all (λ n. ltb n (length g.atoms)) (declared_atoms f.declared)) fs ≡ true
    → map (numbered_feature g.atoms) (map (named_feature g) fs) ≡ fs
features_back g [] d h = refl
features_back g (f ∷ fs) d h =
    let parts = and_parts (list_all (λ n. ltb n (length g.atoms)) (declared_atoms f.declared))
    (list_all (λ x. list_all (λ n. ltb n (length g.atoms)) (declared_atoms x.declared)) fs) h in
    let made : Declared → Feature = λ v. record { name = f.name; declared = v } in
    ap (λ (v : Declared). made v ∷ map (numbered_feature g.atoms) (map (named_feature g) fs)) (domain_back g f.declared d parts.0)
    ∙ ap (λ (x : List Feature). f ∷ x) (features_back g fs d parts.1)

-- Rules

declaration_rules : (g : GrammarParts) (name : List ℕ) (d : Declared) → flat_map item_rules (declaration g name d) ≡ []
declaration_rules g name declared.Undeclared = refl
declaration_rules g name declared.Words = refl
declaration_rules g name declared.Positions = refl
declaration_rules g name (declared.Atoms atoms) = refl

declarations_rules : (g : GrammarParts) (fs : List Feature) → flat_map item_rules (flat_map (written_feature g) fs) ≡ []
declarations_rules g [] = refl
declarations_rules g (f ∷ fs) =
    flat_map-append item_rules (written_feature g f) (flat_map (written_feature g) fs)
    ∙ ap (λ (x : List WrittenRule). x ++ flat_map item_rules (flat_map (written_feature g) fs)) (declaration_rules g f.name f.declared)
    ∙ declarations_rules g fs

only_rules : (g : GrammarParts) (rs : List Rule) → flat_map item_rules (map (λ r. item.Rule (written_rule g r)) rs) ≡ map (written_rule g) rs
only_rules g [] = refl
only_rules g (r ∷ rs) = ap (λ (x : List WrittenRule). written_rule g r ∷ x) (only_rules g rs)

rules_written : (g : GrammarParts) → rules_of (written_of g) ≡ map (written_rule g) g.rules
rules_written g =
    flat_map-append item_rules (flat_map (written_feature g) g.features) (map (λ r. item.Rule (written_rule g r)) g.rules)
    ∙ ap (λ (x : List WrittenRule). x ++ flat_map item_rules (map (λ r. item.Rule (written_rule g r)) g.rules)) (declarations_rules g g.features)
    ∙ only_rules g g.rules

declared_named : (g : GrammarParts) → IsSound g → with_items (map undeclared first_features) (written_of g) ≡ map (named_feature g) g.features
declared_named g s =
    let declarations = flat_map (written_feature g) g.features in
    let first = map undeclared first_features in
    with_items_append first declarations (map (λ r. item.Rule (written_rule g r)) g.rules)
    ∙ rules_add_none g (with_items first declarations) g.rules
    ∙ ap (λ (x : List NamedFeature). with_items x declarations) (sym (opens_first first_features g.features s.numbered.first_features))
    ∙ items_named g 4 [] g.features (features_differ g s) s.numbered.features (all_clear g.features)

names_back : (g : GrammarParts) (fs : List Feature) → map (λ f. f.name) (map (named_feature g) fs) ≡ map (λ f. f.name) fs
names_back g [] = refl
names_back g (f ∷ fs) = ap (λ (x : List (List ℕ)). f.name ∷ x) (names_back g fs)

-- no rule writes a feature without a declaration
features_named : (g : GrammarParts) → IsSound g → all_features (written_of g) ≡ map (named_feature g) g.features
features_named g s =
    let named = map (named_feature g) g.features in
    let written = flat_map written_features (map (written_rule g) g.rules) in
    let among : list_all (λ w. is_among (map (λ f. f.name) named) w) written ≡ true =
    subst (λ (ns : List (List ℕ)). list_all (λ w. is_among ns w) written ≡ true) (sym (names_back g g.features)) (features_are_declared g s) in
    ap (λ (rs : List WrittenRule). with_undeclared (with_items (map undeclared first_features) (written_of g)) (flat_map written_features rs)) (rules_written g)
    ∙ ap (λ (fs : List NamedFeature). with_undeclared fs written) (declared_named g s)
    ∙ none_undeclared named written among

rules_back : (g : GrammarParts) (rs : List Rule) → Differs g → list_all (is_fine g) rs ≡ true
    → map (λ r. numbered_rule (rule_tables g (variable_names (feature_names g) r)) r) (map (written_rule g) rs) ≡ rs
rules_back g [] d h = refl
rules_back g (r ∷ rs) d h =
    let parts = and_parts (is_fine g r) (list_all (is_fine g) rs) h in
    ap (λ (x : Rule). x ∷ map (λ y. numbered_rule (rule_tables g (variable_names (feature_names g) y)) y) (map (written_rule g) rs)) (rule_back g r d parts.0)
    ∙ ap (λ (x : List Rule). r ∷ x) (rules_back g rs d parts.1)

-- Terminals

element_names_of_terminals : (g : GrammarParts) (e : Element) → written_terminals (written_element g e) ≡ map (name_at g.terminals) (element_terminals e)
element_names_of_terminals g (Terminal t) = refl
element_names_of_terminals g e = refl

body_terminals : (g : GrammarParts) (es : List Element)
    → flat_map written_terminals (map (written_element g) es) ≡ map (name_at g.terminals) (flat_map element_terminals es)
body_terminals g [] = refl
body_terminals g (e ∷ es) =
    ap (λ (x : List (List ℕ)). x ++ flat_map written_terminals (map (written_element g) es)) (element_names_of_terminals g e)
    ∙ ap (λ (x : List (List ℕ)). map (name_at g.terminals) (element_terminals e) ++ x) (body_terminals g es)
    ∙ sym (map-append (name_at g.terminals) (element_terminals e) (flat_map element_terminals es))

rules_terminals : (g : GrammarParts) (rs : List Rule)
    → flat_map (λ r. flat_map written_terminals r.body) (map (written_rule g) rs) ≡ map (name_at g.terminals) (flat_map rule_terminals rs)
rules_terminals g [] = refl
rules_terminals g (r ∷ rs) =
    ap (λ (x : List (List ℕ)). x ++ flat_map (λ y. flat_map written_terminals y.body) (map (written_rule g) rs)) (body_terminals g r.body)
    ∙ ap (λ (x : List (List ℕ)). map (name_at g.terminals) (rule_terminals r) ++ x) (rules_terminals g rs)
    ∙ sym (map-append (name_at g.terminals) (rule_terminals r) (flat_map rule_terminals rs))

-- The whole

abbrev build : List NamedFeature → List (List ℕ) → List (List ℕ) → List (List ℕ) → List (List ℕ) → List WrittenRule → GrammarParts
build features names atoms terminals categories rules = record {
  features = map (numbered_feature atoms) features;
  atoms = atoms;
  terminals = terminals;
  categories = kinds ++ categories;
  rules = map (λ r. numbered_rule (record {
    features = names;
    atoms = atoms;
    terminals = terminals;
    categories = categories;
    variables = variable_names names r;
  }) r) rules;
}

abbrev build_of : List NamedFeature → List WrittenRule → GrammarParts
build_of features rules = build features (map (λ f. f.name) features) (atoms_of features)
    (gathered [] (flat_map (λ r. flat_map written_terminals r.body) rules)) (gathered (codes "text" ∷ []) (flat_map rule_names rules)) rules

-- what is written for a sound grammar makes that grammar
pub numbered_of-written_of : (g : GrammarParts) → IsSound g → numbered_of (written_of g) ≡ g
numbered_of-written_of g s =
    let named = map (named_feature g) g.features in
    let written = map (written_rule g) g.rules in
    let terminals = gathered [] (flat_map (λ r. flat_map written_terminals r.body) written) in
    let categories = gathered (codes "text" ∷ []) (flat_map rule_names written) in
    let terminals_are : terminals ≡ g.terminals =
    ap (gathered []) (rules_terminals g g.rules)
    ∙ gathered_counts g.terminals 0 (grammar_terminals g) s.numbered.different_terminals s.numbered.terminals in
    let differs : Differs g = record {
      features = features_differ g s;
      atoms = s.numbered.different_atoms;
      terminals = s.numbered.different_terminals;
      preterminals = first_kinds g s;
      categories = s.numbered.different_categories;
    } in
    let atoms_below : list_all (λ f. list_all (λ n. ltb n (length g.atoms)) (declared_atoms f.declared)) g.features ≡ true =
    all_flat (λ n. ltb n (length g.atoms)) (λ f. declared_atoms f.declared) g.features (counted 7 (length g.atoms) (grammar_atoms g) s.numbered.atoms).1 in
    let others = drop 5 g.categories in
    let made : List (List ℕ) → List Feature → List Rule → GrammarParts =
    λ cs fs rs. record { features = fs; atoms = g.atoms; terminals = g.terminals; categories = cs; rules = rs } in
    let features = features_back g g.features s.numbered.different_atoms atoms_below in
    let rules = rules_back g g.rules differs (all_fine g s) in
    ap (λ (fs : List NamedFeature). build_of fs (rules_of (written_of g))) (features_named g s)
    ∙ ap (build_of named) (rules_written g)
    ∙ ap (λ (ns : List (List ℕ)). build named ns (atoms_of named) terminals categories written) (names_back g g.features)
    ∙ ap (λ (xs : List (List ℕ)). build named (feature_names g) xs terminals categories written) (atoms_back g s)
    ∙ ap (λ (xs : List (List ℕ)). build named (feature_names g) g.atoms xs categories written) terminals_are
    ∙ ap (λ (xs : List (List ℕ)). build named (feature_names g) g.atoms g.terminals xs written) (categories_back g s)
    ∙ ap (λ (fs : List Feature). made (kinds ++ others) fs (map (λ r. numbered_rule (rule_tables g (variable_names (feature_names g) r)) r) written)) features
    ∙ ap (made (kinds ++ others) g.features) rules
    ∙ ap (λ (cs : List (List ℕ)). made cs g.features g.rules) (kinds_first g s)
