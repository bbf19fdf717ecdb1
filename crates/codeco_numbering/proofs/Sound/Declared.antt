-- Where no rule writes an undeclared feature, all features behind the first ones are declared.
use Rattle.std.proofs.Common.{◌≡◌, ℕ, Bool, true, false, not, ◌&&◌, List, [], ◌∷◌, map, drop, Option, Some, None, refl, sym, ap, ◌∙◌, arith}
use Rattle.std.specs.List.{list_all, list_any, flat_map}
use Rattle.std.proofs.lemmas.List.{drop-map}
use Rattle.std.proofs.lemmas.Bool.{and_parts, and_from}
use Rattle.std.proofs.lemmas.List.Folds.{list_all-map as all-map}
use Rattle.codeco_terms.specs.declared.rules.Rule.{Rule}
use Rattle.codeco_text.specs.declared.written.WrittenRule.{WrittenRule}
use Rattle.codeco_text.specs.declared.written.Domain.{Domain}
use Rattle.codeco_text.specs.declared.written.Domain.TheVariants as domain
use Rattle.codeco_text.specs.declared.written.WrittenItem.{WrittenItem}
use Rattle.codeco_text.specs.declared.written.WrittenItem.TheVariants as item
use Rattle.codeco_text.specs.Names.{is_among}
use Rattle.codeco_text.specs.Notation.{item_fits}
use Rattle.codeco_checked.specs.declared.fault.GrammarFault.TheVariants as fault
use Rattle.codeco_checked.specs.Occurrences.{rule_features}
use Rattle.codeco_checked.specs.Numbering.{begins_with, first_features, is_declared}
use Rattle.codeco_checked.specs.Faults.{values_of, is_undeclared_rule}
use Rattle.codeco_checked.specs.Sound.{Holds}
use Rattle.codeco_numbering.specs.Numbered.{number_of, NamedFeature, undeclared, is_open, with_items, all_features, atoms_of, numbered_domain, numbered_feature, rules_of, written_features, numbered_of}
use Rattle.wiki_base.proofs.ListLaws.{flat_all, all_weaken, all_both, all_from_none, none_each}
use Rattle.codeco_numbering.proofs.Sound.Faults.{at_no_rule}
use Rattle.codeco_numbering.proofs.Sound.Features.{feature_names, items_names, undeclared_names, none_undeclared, has_domain, items_behind, declared_among}
use Rattle.codeco_numbering.proofs.Sound.Mentions.{rule_passes}
use Rattle.codeco_numbering.proofs.Sound.Contents.{tables_of, numbered_in}

-- no rule writes an undeclared feature
abbrev pub NoneUndeclared : List WrittenItem → Type 0
NoneUndeclared items = (n : ℕ) → Holds (numbered_of items) (fault.Undeclared n) → ⊥

-- what each rule of the items passes
pub rules_pass : (p : WrittenItem → Bool) (q : WrittenRule → Bool) → ((r : WrittenRule) → p (item.Rule r) ≡ true → q r ≡ true) → (items : List WrittenItem)
    → list_all p items ≡ true → list_all q (rules_of items) ≡ true
rules_pass p q step [] h = refl
rules_pass p q step (item.Feature name d ∷ is) h = rules_pass p q step is (and_parts (p (item.Feature name d)) (list_all p is) h).1
rules_pass p q step (item.Rule r ∷ is) h =
    let parts = and_parts (p (item.Rule r)) (list_all p is) h in
    and_from (q r) (list_all q (rules_of is)) (step r parts.0) (rules_pass p q step is parts.1)

abbrev pub declared_of : List WrittenItem → List NamedFeature
declared_of items = with_items (map undeclared first_features) items

abbrev is_declared_in : List WrittenItem → ℕ → Bool
is_declared_in items n = is_declared (values_of (numbered_of items) n)

rules_declared : (items : List WrittenItem) → NoneUndeclared items
    → list_all (λ r. list_all (λ f. is_declared_in items f.0) (rule_features (numbered_in items r))) (rules_of items) ≡ true
rules_declared items none =
    let g = numbered_of items in
    let P : Rule → Bool = λ r. list_all (λ f. is_declared (values_of g f.0)) (rule_features r) in
    let nowhere : list_any (is_undeclared_rule g) g.rules ≡ false = at_no_rule (is_undeclared_rule g) g.rules none in
    let each : list_all P g.rules ≡ true =
    none_each (is_undeclared_rule g) P (λ r h. all_from_none (λ f. is_declared (values_of g f.0)) (rule_features r) h) g.rules nowhere in
    sym (all-map P (numbered_in items) (rules_of items)) ∙ each

written_declared : (items : List WrittenItem) → list_all item_fits items ≡ true → NoneUndeclared items
    → list_all (λ w. is_among (feature_names (declared_of items)) w) (flat_map written_features (rules_of items)) ≡ true
written_declared items fits none =
    let fs = declared_of items in
    let ws = flat_map written_features (rules_of items) in
    let q : ℕ → Bool = is_declared_in items in
    let names = feature_names (all_features items) in
    let P : WrittenRule → Bool = λ r. item_fits (item.Rule r) in
    let Q : WrittenRule → Bool = λ r. list_all (λ f. q f.0) (rule_features (numbered_in items r)) in
    flat_all (λ w. is_among (feature_names fs) w) written_features (rules_of items)
    (all_weaken (λ r. P r && Q r) (λ r. list_all (λ w. is_among (feature_names fs) w) (written_features r))
    (λ r h.
    let parts = and_parts (P r) (Q r) h in
    all_weaken (λ w. q (number_of names w)) (λ w. is_among (feature_names fs) w) (λ w k. declared_among (atoms_of (all_features items)) fs ws w k)
    (written_features r) (rule_passes q (tables_of items r) r parts.0 parts.1))
    (rules_of items)
    (all_both P Q (rules_of items) (rules_pass item_fits P (λ r h. h) items fits) (rules_declared items none)))

-- the features are those of the declarations
pub features_declared : (items : List WrittenItem) → list_all item_fits items ≡ true → NoneUndeclared items → all_features items ≡ declared_of items
features_declared items fits none = none_undeclared (declared_of items) (flat_map written_features (rules_of items)) (written_declared items fits none)

domain_declared : (atoms : List (List ℕ)) (f : NamedFeature) → has_domain f ≡ true → is_declared (numbered_domain atoms f.domain) ≡ true
domain_declared atoms f h = by f.domain h
  where
    by : (d : Option Domain) → not (is_open d) ≡ true → is_declared (numbered_domain atoms d) ≡ true
    by None k = absurd cc
    by (Some domain.Words) k = refl
    by (Some domain.Positions) k = refl
    by (Some (domain.Atoms names)) k = refl

-- those behind the first four are declared
pub behind_declared : (items : List WrittenItem) → list_all item_fits items ≡ true → NoneUndeclared items
    → list_all (λ f. is_declared f.declared) (drop 4 (map (numbered_feature (atoms_of (all_features items))) (all_features items))) ≡ true
behind_declared items fits none =
    let atoms = atoms_of (all_features items) in
    let fs = all_features items in
    let behind : list_all has_domain (drop 4 fs) ≡ true =
    ap (λ (x : List NamedFeature). list_all has_domain (drop 4 x)) (features_declared items fits none)
    ∙ items_behind 4 (map undeclared first_features) items (omega arith) refl in
    ap (list_all (λ f. is_declared f.declared)) (drop-map (numbered_feature atoms) 4 fs)
    ∙ all-map (λ f. is_declared f.declared) (numbered_feature atoms) (drop 4 fs)
    ∙ all_weaken has_domain (λ f. is_declared (numbered_domain atoms f.domain)) (domain_declared atoms) (drop 4 fs) behind

-- Names

pub numbered_names : (atoms : List (List ℕ)) (fs : List NamedFeature) → map (λ f. f.name) (map (numbered_feature atoms) fs) ≡ feature_names fs
numbered_names atoms [] = refl
numbered_names atoms (f ∷ fs) = ap (λ (x : List (List ℕ)). f.name ∷ x) (numbered_names atoms fs)

-- the first four keep their names
pub begins_features : (items : List WrittenItem) → begins_with first_features (feature_names (all_features items)) ≡ true
begins_features items = undeclared_names first_features (declared_of items) (flat_map written_features (rules_of items))
    (items_names first_features (map undeclared first_features) items refl)
