-- The features of the numbered grammar that have a declaration are those that the items declare, in another order.
use Rattle.std.proofs.Common.{◌≡◌, ℕ, Bool, true, false, cond, ◌&&◌, List, [], ◌∷◌, ◌++◌, map, filter, Option, Some, None, refl, sym, ap, ◌∙◌, append-nil, inl, inr}
use Rattle.std.specs.List.{flat_map}
use Rattle.std.proofs.lemmas.List.{map-append}
use Rattle.std.proofs.lemmas.List.Concat.{flat_map-append}
use Rattle.std.proofs.lemmas.Bool.{cases_Bool, and_parts, cond-true, cond-false}
use Rattle.codeco_terms.specs.declared.declarations.Feature.{Feature}
use Rattle.codeco_text.specs.declared.written.Domain.{Domain}
use Rattle.codeco_text.specs.declared.written.Domain.TheVariants as domain
use Rattle.codeco_text.specs.declared.written.WrittenItem.{WrittenItem}
use Rattle.codeco_text.specs.declared.written.WrittenItem.TheVariants as item
use Rattle.codeco_text.specs.Names.{same_bytes, is_among}
use Rattle.codeco_checked.specs.Numbering.{is_declared, first_features}
use Rattle.codeco_numbering.specs.Numbered.{NamedFeature, undeclared, is_open, with_declaration, with_items, with_undeclared, all_features, rules_of, written_features, domain_atoms, feature_atoms, numbered_domain, numbered_feature}
use Rattle.codeco_early_faults.specs.Early.{declared_names, declared_atoms}
use Rattle.codeco_early_faults.proofs.Moves.{Same, same_refl, same_trans, same_append, same_put, same_from}

abbrev pub with_domain : List ℕ → Option Domain → List (List ℕ × Domain)
with_domain name None = []
with_domain name (Some d) = (name, d) ∷ []

-- the features with a declaration
abbrev pub declared_of : List NamedFeature → List (List ℕ × Domain)
declared_of fs = flat_map (λ f. with_domain f.name f.domain) fs

abbrev pub item_pairs : WrittenItem → List (List ℕ × Domain)
item_pairs (item.Feature name d) = (name, d) ∷ []
item_pairs (item.Rule r) = []

abbrev pub declarations : List WrittenItem → List (List ℕ × Domain)
declarations items = flat_map item_pairs items

open_none : (name : List ℕ) (o : Option Domain) → is_open o ≡ true → with_domain name o ≡ []
open_none name None h = refl
open_none name (Some d) h = absurd cc

pub declare_put : (fs : List NamedFeature) (name : List ℕ) (d : Domain) → Same (declared_of (with_declaration fs name d)) ((name, d) ∷ declared_of fs)
declare_put [] name d = same_refl ((name, d) ∷ [])
declare_put (f ∷ fs) name d =
    let test = same_bytes name f.name && is_open f.domain in
    let filled : List NamedFeature = record { name = name; domain = Some d } ∷ fs in
    let passed : List NamedFeature = f ∷ with_declaration fs name d in
    elim (cases_Bool test) [
      | inl e ↦
          let none : with_domain f.name f.domain ≡ [] = open_none f.name f.domain (and_parts (same_bytes name f.name) (is_open f.domain) e).1 in
          same_from (ap declared_of (cond-true test filled passed e) ∙ sym (ap (λ (l : List (List ℕ × Domain)). (name, d) ∷ (l ++ declared_of fs)) none))
      | inr e ↦
          same_trans (same_from (ap declared_of (cond-false test filled passed e)))
          (same_trans (same_append (same_refl (with_domain f.name f.domain)) (declare_put fs name d))
          (same_put (with_domain f.name f.domain) (declared_of fs) (name, d)))
    ]

declared_items : (items : List WrittenItem) (fs : List NamedFeature) → Same (declared_of (with_items fs items)) (declarations items ++ declared_of fs)
declared_items [] fs = same_refl (declared_of fs)
declared_items (item.Rule r ∷ items) fs = declared_items items fs
declared_items (item.Feature name d ∷ items) fs =
    same_trans (declared_items items (with_declaration fs name d))
    (same_trans (same_append (same_refl (declarations items)) (declare_put fs name d))
    (same_put (declarations items) (declared_of fs) (name, d)))

undeclared_none : (fs : List NamedFeature) (ws : List (List ℕ)) → declared_of (with_undeclared fs ws) ≡ declared_of fs
undeclared_none fs [] = refl
undeclared_none fs (w ∷ ws) =
    let there = is_among (map (λ f. f.name) fs) w in
    let more : List NamedFeature = fs ++ undeclared w ∷ [] in
    undeclared_none (cond there fs more) ws ∙ elim (cases_Bool there) [
      | inl e ↦ ap declared_of (cond-true there fs more e)
      | inr e ↦ ap declared_of (cond-false there fs more e) ∙ flat_map-append (λ f. with_domain f.name f.domain) fs (undeclared w ∷ [])
          ∙ append-nil (declared_of fs)
    ]

pub features_declared : (items : List WrittenItem) → Same (declared_of (all_features items)) (declarations items)
features_declared items =
    let first = map undeclared first_features in
    same_trans (same_from (undeclared_none (with_items first items) (flat_map written_features (rules_of items))))
    (same_trans (declared_items items first) (same_from (append-nil (declarations items))))

-- Their names and atoms

pub declaration_names : (items : List WrittenItem) → map (λ p. p.0) (declarations items) ≡ declared_names items
declaration_names [] = refl
declaration_names (item.Rule r ∷ items) = declaration_names items
declaration_names (item.Feature name d ∷ items) = ap (λ (l : List (List ℕ)). name ∷ l) (declaration_names items)

pub declaration_atoms : (items : List WrittenItem) → flat_map (λ p. domain_atoms p.1) (declarations items) ≡ declared_atoms items
declaration_atoms [] = refl
declaration_atoms (item.Rule r ∷ items) = declaration_atoms items
declaration_atoms (item.Feature name d ∷ items) = ap (λ (l : List (List ℕ)). domain_atoms d ++ l) (declaration_atoms items)

feature_named : (atoms : List (List ℕ)) (name : List ℕ) (o : Option Domain) (rest : List (List ℕ))
    → cond (is_declared (numbered_domain atoms o)) (name ∷ rest) rest ≡ map (λ p. p.0) (with_domain name o) ++ rest
feature_named atoms name None rest = refl
feature_named atoms name (Some domain.Words) rest = refl
feature_named atoms name (Some domain.Positions) rest = refl
feature_named atoms name (Some (domain.Atoms ws)) rest = refl

names_filtered : (f : Feature) (b : Bool) (fs : List Feature)
    → map (λ x. x.name) (cond b (f ∷ fs) fs) ≡ cond b (f.name ∷ map (λ x. x.name) fs) (map (λ x. x.name) fs)
names_filtered f true fs = refl
names_filtered f false fs = refl

-- the names of the numbered features that are declared
pub feature_names : (atoms : List (List ℕ)) (fs : List NamedFeature)
    → map (λ f. f.name) (filter (λ f. is_declared f.declared) (map (numbered_feature atoms) fs)) ≡ map (λ p. p.0) (declared_of fs)
feature_names atoms [] = refl
feature_names atoms (f ∷ fs) =
    let rest = filter (λ x. is_declared x.declared) (map (numbered_feature atoms) fs) in
    names_filtered (numbered_feature atoms f) (is_declared (numbered_domain atoms f.domain)) rest
    ∙ feature_named atoms f.name f.domain (map (λ x. x.name) rest)
    ∙ ap (λ (l : List (List ℕ)). map (λ p. p.0) (with_domain f.name f.domain) ++ l) (feature_names atoms fs)
    ∙ sym (map-append (λ p. p.0) (with_domain f.name f.domain) (declared_of fs))

abbrev pub atoms_in : List NamedFeature → List (List ℕ)
atoms_in fs = flat_map (λ f. feature_atoms f.domain) fs

atoms_of_domain : (name : List ℕ) (o : Option Domain) → flat_map (λ p. domain_atoms p.1) (with_domain name o) ≡ feature_atoms o
atoms_of_domain name None = refl
atoms_of_domain name (Some d) = append-nil (domain_atoms d)

pub feature_atoms_in : (fs : List NamedFeature) → flat_map (λ p. domain_atoms p.1) (declared_of fs) ≡ atoms_in fs
feature_atoms_in [] = refl
feature_atoms_in (f ∷ fs) =
    flat_map-append (λ p. domain_atoms p.1) (with_domain f.name f.domain) (declared_of fs)
    ∙ ap (λ (l : List (List ℕ)). l ++ flat_map (λ p. domain_atoms p.1) (declared_of fs)) (atoms_of_domain f.name f.domain)
    ∙ ap (λ (l : List (List ℕ)). feature_atoms f.domain ++ l) (feature_atoms_in fs)
