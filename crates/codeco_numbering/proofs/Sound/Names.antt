-- The names of features, atoms, categories and terminals are those of the notation.
use Rattle.std.proofs.Common.{◌≡◌, ℕ, Bool, true, not, ◌&&◌, List, [], ◌∷◌, ◌++◌, map, Option, Some, None, refl, ap, ◌∙◌, inl, inr}
use Rattle.std.specs.Prelude.{codes}
use Rattle.std.specs.List.{list_all, flat_map}
use Rattle.std.proofs.lemmas.Bool.{and_parts, and_from, cases_Bool, cond-true, cond-false}
use Rattle.std.proofs.lemmas.List.Folds.{list_all-map as all-map}
use Rattle.codeco_text.specs.declared.written.WrittenCategory.{WrittenCategory}
use Rattle.codeco_text.specs.declared.written.WrittenElement.{WrittenElement}
use Rattle.codeco_text.specs.declared.written.WrittenElement.TheVariants as element
use Rattle.codeco_text.specs.declared.written.WrittenRule.{WrittenRule}
use Rattle.codeco_text.specs.declared.written.Domain.{Domain}
use Rattle.codeco_text.specs.declared.written.Domain.TheVariants as domain
use Rattle.codeco_text.specs.declared.written.WrittenItem.{WrittenItem}
use Rattle.codeco_text.specs.declared.written.WrittenItem.TheVariants as item
use Rattle.codeco_text.specs.Names.{is_identifier, is_terminal, is_among}
use Rattle.codeco_text.specs.Notation.{kinds, domain_fits, item_fits}
use Rattle.codeco_text.specs.Notation as notation
use Rattle.codeco_checked.specs.Numbering.{first_features, first_atoms}
use Rattle.codeco_checked.specs.Sound.{is_empty, has_values}
use Rattle.codeco_numbering.specs.Numbered.{gathered, number_of, NamedFeature, undeclared, all_features, feature_atoms, domain_atoms, atoms_of, numbered_domain, numbered_feature, element_categories, rules_of, category_features, written_features, plain_categories, rule_names, written_terminals}
use Rattle.wiki_base.proofs.ListLaws.{all_append, flat_all, all_weaken}
use Rattle.codeco_numbering.proofs.Sound.Spelled.{term_spelled, feat_spelled, category_spelled, element_spelled, label_spelled, domain_spelled, item_spelled}
use Rattle.codeco_numbering.proofs.Sound.Features.{item_passes, items_all, undeclared_all}
use Rattle.codeco_numbering.proofs.Sound.Contents.{terminals_of, categories_of}
use Rattle.codeco_numbering.proofs.Sound.Declared.{rules_pass, declared_of}

-- what the first names and the words pass, all that are gathered pass
pub gathered_all : (p : List ℕ → Bool) (names ws : List (List ℕ)) → list_all p names ≡ true → list_all p ws ≡ true → list_all p (gathered names ws) ≡ true
gathered_all p names [] h k = h
gathered_all p names (w ∷ ws) h k =
    let parts = and_parts (p w) (list_all p ws) k in
    elim (cases_Bool (is_among names w)) [
      | inl old ↦ ap (λ (x : List (List ℕ)). list_all p (gathered x ws)) (cond-true (is_among names w) names (names ++ w ∷ []) old)
          ∙ gathered_all p names ws h parts.1
      | inr new ↦
          ap (λ (x : List (List ℕ)). list_all p (gathered x ws)) (cond-false (is_among names w) names (names ++ w ∷ []) new)
          ∙ gathered_all p (names ++ w ∷ []) ws (all_append p names (w ∷ []) h (and_from (p w) true parts.0 refl)) parts.1
    ]

abbrev is_spelled_rule : WrittenRule → Bool
is_spelled_rule r = label_spelled r.label && (category_spelled r.head && list_all element_spelled r.body)

rules_spelled : (items : List WrittenItem) → list_all item_spelled items ≡ true → list_all is_spelled_rule (rules_of items) ≡ true
rules_spelled items h = rules_pass item_spelled is_spelled_rule (λ r k. k) items h

pub bodies_spelled : (items : List WrittenItem) → list_all item_spelled items ≡ true → list_all (λ r. list_all element_spelled r.body) (rules_of items) ≡ true
bodies_spelled items h =
    all_weaken is_spelled_rule (λ r. list_all element_spelled r.body)
    (λ r k. (and_parts (category_spelled r.head) (list_all element_spelled r.body)
    (and_parts (label_spelled r.label) (category_spelled r.head && list_all element_spelled r.body) k).1).1)
    (rules_of items) (rules_spelled items h)

heads_spelled : (r : WrittenRule) → is_spelled_rule r ≡ true → (category_spelled r.head ≡ true) × (list_all element_spelled r.body ≡ true)
heads_spelled r k = and_parts (category_spelled r.head) (list_all element_spelled r.body)
    (and_parts (label_spelled r.label) (category_spelled r.head && list_all element_spelled r.body) k).1

-- Features

abbrev feats_named : WrittenCategory → Bool
feats_named c = list_all is_identifier (category_features c)

named : (c : WrittenCategory) → list_all feat_spelled c.feats ≡ true → feats_named c ≡ true
named c h = all-map is_identifier (λ f. f.name) c.feats
    ∙ all_weaken feat_spelled (λ f. is_identifier f.name) (λ f k. (and_parts (is_identifier f.name) (term_spelled f.term) k).0) c.feats h

category_named : (c : WrittenCategory) → category_spelled c ≡ true → feats_named c ≡ true
category_named c h = named c (and_parts (is_identifier c.name) (list_all feat_spelled c.feats) h).1

one_named : (c : WrittenCategory) → category_spelled c ≡ true → list_all feats_named (c ∷ []) ≡ true
one_named c h = and_from (feats_named c) true (category_named c h) refl

element_named : (e : WrittenElement) → element_spelled e ≡ true → list_all feats_named (element_categories e) ≡ true
element_named (element.Terminal w) h = refl
element_named (element.Preterminal c) h = and_from (feats_named c) true (named c (and_parts (is_among kinds c.name) (list_all feat_spelled c.feats) h).1) refl
element_named (element.Sub c) h = one_named c h
element_named (element.Position w) h = refl
element_named element.Opener h = refl
element_named (element.Forward c) h = one_named c h
element_named (element.Strong c) h = one_named c h
element_named (element.Back ps ns) h =
    let parts = and_parts (list_all category_spelled ps) (list_all category_spelled ns) h in
    all_append feats_named ps ns (all_weaken category_spelled feats_named category_named ps parts.0)
    (all_weaken category_spelled feats_named category_named ns parts.1)
element_named (element.NoBack ps) h = all_weaken category_spelled feats_named category_named ps h

rule_features_named : (r : WrittenRule) → is_spelled_rule r ≡ true → list_all is_identifier (written_features r) ≡ true
rule_features_named r h =
    let parts = heads_spelled r h in
    flat_all is_identifier category_features (r.head ∷ flat_map element_categories r.body)
    (and_from (feats_named r.head) (list_all feats_named (flat_map element_categories r.body)) (category_named r.head parts.0)
    (flat_all feats_named element_categories r.body
    (all_weaken element_spelled (λ e. list_all feats_named (element_categories e)) element_named r.body parts.1)))

-- what a feature's declaration and each feature that rules write pass, all features pass
features_pass : (p : NamedFeature → Bool) (items : List WrittenItem) → list_all p (map undeclared first_features) ≡ true → list_all (item_passes p) items ≡ true
    → list_all (λ w. p (undeclared w)) (flat_map written_features (rules_of items)) ≡ true → list_all p (all_features items) ≡ true
features_pass p items first declared rules =
    undeclared_all p (declared_of items) (flat_map written_features (rules_of items)) rules (items_all p (map undeclared first_features) items declared first)

item_named : (i : WrittenItem) → item_spelled i ≡ true → item_passes (λ f. is_identifier f.name) i ≡ true
item_named (item.Feature name d) h = (and_parts (is_identifier name) (domain_spelled d) h).0
item_named (item.Rule r) h = refl

pub features_named : (items : List WrittenItem) → list_all item_spelled items ≡ true → list_all (λ f. is_identifier f.name) (all_features items) ≡ true
features_named items h =
    features_pass (λ f. is_identifier f.name) items refl (all_weaken item_spelled (item_passes (λ f. is_identifier f.name)) item_named items h)
    (flat_all is_identifier written_features (rules_of items)
    (all_weaken is_spelled_rule (λ r. list_all is_identifier (written_features r)) rule_features_named (rules_of items) (rules_spelled items h)))

all_pass : {X : Type 0} (xs : List X) → list_all (λ x. true) xs ≡ true
all_pass [] = refl
all_pass (x ∷ xs) = all_pass xs

-- Values

abbrev option_fits : Option Domain → Bool
option_fits None = true
option_fits (Some d) = domain_fits d

item_valued : (i : WrittenItem) → item_fits i ≡ true → item_passes (λ f. option_fits f.domain) i ≡ true
item_valued (item.Feature name d) h = h
item_valued (item.Rule r) h = refl

some_atoms : (atoms names : List (List ℕ)) → not (notation.is_empty names) ≡ true → not (is_empty (map (number_of atoms) names)) ≡ true
some_atoms atoms [] h = absurd cc
some_atoms atoms (w ∷ ws) h = refl

option_valued : (atoms : List (List ℕ)) (d : Option Domain) → option_fits d ≡ true → has_values (numbered_domain atoms d) ≡ true
option_valued atoms None h = refl
option_valued atoms (Some domain.Words) h = refl
option_valued atoms (Some domain.Positions) h = refl
option_valued atoms (Some (domain.Atoms names)) h = some_atoms atoms names h

pub features_valued : (items : List WrittenItem) → list_all item_fits items ≡ true
    → list_all (λ f. has_values f.declared) (map (numbered_feature (atoms_of (all_features items))) (all_features items)) ≡ true
features_valued items h =
    let atoms = atoms_of (all_features items) in
    let fit = features_pass (λ f. option_fits f.domain) items refl (all_weaken item_fits (item_passes (λ f. option_fits f.domain)) item_valued items h)
    (all_pass (flat_map written_features (rules_of items))) in
    all-map (λ f. has_values f.declared) (numbered_feature atoms) (all_features items)
    ∙ all_weaken (λ f. option_fits f.domain) (λ f. has_values (numbered_domain atoms f.domain)) (λ f k. option_valued atoms f.domain k) (all_features items) fit

-- Atoms

domain_named : (d : Domain) → domain_spelled d ≡ true → list_all is_identifier (domain_atoms d) ≡ true
domain_named domain.Words h = refl
domain_named domain.Positions h = refl
domain_named (domain.Atoms atoms) h = h

item_atoms_named : (i : WrittenItem) → item_spelled i ≡ true → item_passes (λ f. list_all is_identifier (feature_atoms f.domain)) i ≡ true
item_atoms_named (item.Feature name d) h = domain_named d (and_parts (is_identifier name) (domain_spelled d) h).1
item_atoms_named (item.Rule r) h = refl

pub atoms_named : (items : List WrittenItem) → list_all item_spelled items ≡ true → list_all is_identifier (atoms_of (all_features items)) ≡ true
atoms_named items h =
    let p : NamedFeature → Bool = λ f. list_all is_identifier (feature_atoms f.domain) in
    gathered_all is_identifier first_atoms (flat_map (λ f. feature_atoms f.domain) (all_features items)) refl
    (flat_all is_identifier (λ f. feature_atoms f.domain) (all_features items)
    (features_pass p items refl (all_weaken item_spelled (item_passes p) item_atoms_named items h) (all_pass (flat_map written_features (rules_of items)))))

-- Categories

category_name : (c : WrittenCategory) → category_spelled c ≡ true → is_identifier c.name ≡ true
category_name c h = (and_parts (is_identifier c.name) (list_all feat_spelled c.feats) h).0

one_name : (c : WrittenCategory) → category_spelled c ≡ true → list_all (λ x. is_identifier x.name) (c ∷ []) ≡ true
one_name c h = and_from (is_identifier c.name) true (category_name c h) refl

element_name : (e : WrittenElement) → element_spelled e ≡ true → list_all (λ c. is_identifier c.name) (plain_categories e) ≡ true
element_name (element.Sub c) h = one_name c h
element_name (element.Forward c) h = one_name c h
element_name (element.Strong c) h = one_name c h
element_name (element.Back ps ns) h =
    let parts = and_parts (list_all category_spelled ps) (list_all category_spelled ns) h in
    all_append (λ c. is_identifier c.name) ps ns (all_weaken category_spelled (λ c. is_identifier c.name) category_name ps parts.0)
    (all_weaken category_spelled (λ c. is_identifier c.name) category_name ns parts.1)
element_name (element.NoBack ps) h = all_weaken category_spelled (λ c. is_identifier c.name) category_name ps h
element_name e h = refl

rule_named : (r : WrittenRule) → is_spelled_rule r ≡ true → list_all is_identifier (rule_names r) ≡ true
rule_named r h =
    let parts = heads_spelled r h in
    all-map is_identifier (λ c. c.name) (r.head ∷ flat_map plain_categories r.body)
    ∙ and_from (is_identifier r.head.name) (list_all (λ c. is_identifier c.name) (flat_map plain_categories r.body)) (category_name r.head parts.0)
    (flat_all (λ c. is_identifier c.name) plain_categories r.body
    (all_weaken element_spelled (λ e. list_all (λ c. is_identifier c.name) (plain_categories e)) element_name r.body parts.1))

pub categories_named : (items : List WrittenItem) → list_all item_spelled items ≡ true → list_all is_identifier (kinds ++ categories_of items) ≡ true
categories_named items h =
    all_append is_identifier kinds (categories_of items) refl
    (gathered_all is_identifier (codes "text" ∷ []) (flat_map rule_names (rules_of items)) refl
    (flat_all is_identifier rule_names (rules_of items)
    (all_weaken is_spelled_rule (λ r. list_all is_identifier (rule_names r)) rule_named (rules_of items) (rules_spelled items h))))

-- Terminals

element_terminals_named : (e : WrittenElement) → element_spelled e ≡ true → list_all is_terminal (written_terminals e) ≡ true
element_terminals_named (element.Terminal w) h = and_from (is_terminal w) true h refl
element_terminals_named e h = refl

pub terminals_named : (items : List WrittenItem) → list_all item_spelled items ≡ true → list_all is_terminal (terminals_of items) ≡ true
terminals_named items h =
    gathered_all is_terminal [] (flat_map (λ r. flat_map written_terminals r.body) (rules_of items)) refl
    (flat_all is_terminal (λ r. flat_map written_terminals r.body) (rules_of items)
    (all_weaken (λ r. list_all element_spelled r.body) (λ r. list_all is_terminal (flat_map written_terminals r.body))
    (λ r k. flat_all is_terminal written_terminals r.body
    (all_weaken element_spelled (λ e. list_all is_terminal (written_terminals e)) element_terminals_named r.body k))
    (rules_of items) (bodies_spelled items h)))
