-- The features that declarations and rules make.
use Rattle.std.proofs.Common.{◌≡◌, ℕ, zero, suc, ◌+◌, ◌≤◌, Bool, true, false, not, ◌&&◌, cond, List, [], ◌∷◌, ◌++◌, map, length, drop, Option, Some, None, refl, sym, ap, ◌∙◌, arith, inl, inr}
use Rattle.std.specs.Prelude.{slice_get}
use Rattle.std.specs.Option.{option_map_or}
use Rattle.std.specs.List.{list_all}
use Rattle.std.proofs.lemmas.Bool.{and_parts, and_from, or_parts, cases_Bool, cond-true, cond-false}
use Rattle.codeco_terms.specs.declared.declarations.Declared.TheVariants as declared
use Rattle.codeco_text.specs.declared.written.Domain.{Domain}
use Rattle.codeco_text.specs.declared.written.WrittenItem.{WrittenItem}
use Rattle.codeco_text.specs.declared.written.WrittenItem.TheVariants as item
use Rattle.codeco_text.specs.Names.{same_bytes, is_among}
use Rattle.codeco_text.proofs.Growth.{same_is}
use Rattle.codeco_checked.specs.Numbering.{begins_with, is_declared}
use Rattle.codeco_numbering.specs.Numbered.{number_of, NamedFeature, undeclared, is_open, with_declaration, with_items, with_undeclared, numbered_domain, numbered_feature}
use Rattle.wiki_base.proofs.ListLaws.{all_append}

abbrev pub feature_names : List NamedFeature → List (List ℕ)
feature_names fs = map (λ f. f.name) fs

abbrev pub declares : List ℕ → Domain → NamedFeature
declares name d = record { name = name; domain = Some d }

-- a declaration of this name is taken by the feature
abbrev takes : List ℕ → NamedFeature → Bool
takes name f = same_bytes name f.name && is_open f.domain

-- Names

pub begins_append : (xs ys zs : List (List ℕ)) → begins_with xs ys ≡ true → begins_with xs (ys ++ zs) ≡ true
begins_append [] ys zs h = refl
begins_append (x ∷ xs) [] zs h = absurd cc
begins_append (x ∷ xs) (y ∷ ys) zs h =
    let parts = and_parts (same_bytes x y) (begins_with xs ys) h in
    and_from (same_bytes x y) (begins_with xs (ys ++ zs)) parts.0 (begins_append xs ys zs parts.1)

-- a declaration leaves the names before it as they are
declaration_names : (xs : List (List ℕ)) (fs : List NamedFeature) (name : List ℕ) (d : Domain) → begins_with xs (feature_names fs) ≡ true
    → begins_with xs (feature_names (with_declaration fs name d)) ≡ true
declaration_names [] fs name d h = refl
declaration_names (x ∷ xs) [] name d h = absurd cc
declaration_names (x ∷ xs) (f ∷ fs) name d h =
    let parts = and_parts (same_bytes x f.name) (begins_with xs (feature_names fs)) h in
    elim (cases_Bool (takes name f)) [
      | inl here ↦
          let same = same_is name f.name (and_parts (same_bytes name f.name) (is_open f.domain) here).0 in
          ap (λ ys. begins_with (x ∷ xs) (feature_names ys)) (cond-true (takes name f) (declares name d ∷ fs) (f ∷ with_declaration fs name d) here)
          ∙ and_from (same_bytes x name) (begins_with xs (feature_names fs)) (ap (same_bytes x) same ∙ parts.0) parts.1
      | inr there ↦
          ap (λ ys. begins_with (x ∷ xs) (feature_names ys)) (cond-false (takes name f) (declares name d ∷ fs) (f ∷ with_declaration fs name d) there)
          ∙ and_from (same_bytes x f.name) (begins_with xs (feature_names (with_declaration fs name d))) parts.0 (declaration_names xs fs name d parts.1)
    ]

pub items_names : (xs : List (List ℕ)) (fs : List NamedFeature) (items : List WrittenItem) → begins_with xs (feature_names fs) ≡ true
    → begins_with xs (feature_names (with_items fs items)) ≡ true
items_names xs fs [] h = h
items_names xs fs (item.Feature name d ∷ is) h = items_names xs (with_declaration fs name d) is (declaration_names xs fs name d h)
items_names xs fs (item.Rule r ∷ is) h = items_names xs fs is h

push_names : (xs : List (List ℕ)) (fs : List NamedFeature) (w : List ℕ) → begins_with xs (feature_names fs) ≡ true
    → begins_with xs (feature_names (fs ++ undeclared w ∷ [])) ≡ true
push_names [] fs w h = refl
push_names (x ∷ xs) [] w h = absurd cc
push_names (x ∷ xs) (f ∷ fs) w h =
    let parts = and_parts (same_bytes x f.name) (begins_with xs (feature_names fs)) h in
    and_from (same_bytes x f.name) (begins_with xs (feature_names (fs ++ undeclared w ∷ []))) parts.0 (push_names xs fs w parts.1)

pub undeclared_names : (xs : List (List ℕ)) (fs : List NamedFeature) (ws : List (List ℕ)) → begins_with xs (feature_names fs) ≡ true
    → begins_with xs (feature_names (with_undeclared fs ws)) ≡ true
undeclared_names xs fs [] h = h
undeclared_names xs fs (w ∷ ws) h =
    elim (cases_Bool (is_among (feature_names fs) w)) [
      | inl old ↦ ap (λ ys. begins_with xs (feature_names (with_undeclared ys ws))) (cond-true (is_among (feature_names fs) w) fs (fs ++ undeclared w ∷ []) old)
          ∙ undeclared_names xs fs ws h
      | inr new ↦ ap (λ ys. begins_with xs (feature_names (with_undeclared ys ws)))
          (cond-false (is_among (feature_names fs) w) fs (fs ++ undeclared w ∷ []) new)
          ∙ undeclared_names xs (fs ++ undeclared w ∷ []) ws (push_names xs fs w h)
    ]

-- Tests of each feature

pub declaration_all : (p : NamedFeature → Bool) (fs : List NamedFeature) (name : List ℕ) (d : Domain) → p (declares name d) ≡ true → list_all p fs ≡ true
    → list_all p (with_declaration fs name d) ≡ true
declaration_all p [] name d h k = and_from (p (declares name d)) true h refl
declaration_all p (f ∷ fs) name d h k =
    let parts = and_parts (p f) (list_all p fs) k in
    elim (cases_Bool (takes name f)) [
      | inl here ↦ ap (list_all p) (cond-true (takes name f) (declares name d ∷ fs) (f ∷ with_declaration fs name d) here)
          ∙ and_from (p (declares name d)) (list_all p fs) h parts.1
      | inr there ↦
          ap (list_all p) (cond-false (takes name f) (declares name d ∷ fs) (f ∷ with_declaration fs name d) there)
          ∙ and_from (p f) (list_all p (with_declaration fs name d)) parts.0 (declaration_all p fs name d h parts.1)
    ]

-- what a declaration's feature passes
abbrev pub item_passes : (NamedFeature → Bool) → WrittenItem → Bool
item_passes p (item.Feature name d) = p (declares name d)
item_passes p (item.Rule r) = true

pub items_all : (p : NamedFeature → Bool) (fs : List NamedFeature) (items : List WrittenItem) → list_all (item_passes p) items ≡ true → list_all p fs ≡ true
    → list_all p (with_items fs items) ≡ true
items_all p fs [] h k = k
items_all p fs (item.Feature name d ∷ is) h k =
    let parts = and_parts (p (declares name d)) (list_all (item_passes p) is) h in
    items_all p (with_declaration fs name d) is parts.1 (declaration_all p fs name d parts.0 k)
items_all p fs (item.Rule r ∷ is) h k = items_all p fs is h k

pub undeclared_all : (p : NamedFeature → Bool) (fs : List NamedFeature) (ws : List (List ℕ)) → list_all (λ w. p (undeclared w)) ws ≡ true → list_all p fs ≡ true
    → list_all p (with_undeclared fs ws) ≡ true
undeclared_all p fs [] h k = k
undeclared_all p fs (w ∷ ws) h k =
    let parts = and_parts (p (undeclared w)) (list_all (λ v. p (undeclared v)) ws) h in
    elim (cases_Bool (is_among (feature_names fs) w)) [
      | inl old ↦ ap (λ ys. list_all p (with_undeclared ys ws)) (cond-true (is_among (feature_names fs) w) fs (fs ++ undeclared w ∷ []) old)
          ∙ undeclared_all p fs ws parts.1 k
      | inr new ↦
          ap (λ ys. list_all p (with_undeclared ys ws)) (cond-false (is_among (feature_names fs) w) fs (fs ++ undeclared w ∷ []) new)
          ∙ undeclared_all p (fs ++ undeclared w ∷ []) ws parts.1 (all_append p fs (undeclared w ∷ []) k (and_from (p (undeclared w)) true parts.0 refl))
    ]

-- names that are there add nothing
pub none_undeclared : (fs : List NamedFeature) (ws : List (List ℕ)) → list_all (λ w. is_among (map (λ f. f.name) fs) w) ws ≡ true → with_undeclared fs ws ≡ fs
none_undeclared fs [] h = refl
none_undeclared fs (w ∷ ws) h =
    let parts = and_parts (is_among (map (λ f. f.name) fs) w) (list_all (λ x. is_among (map (λ f. f.name) fs) x) ws) h in
    ap (λ (x : List NamedFeature). with_undeclared x ws) (cond-true (is_among (map (λ f. f.name) fs) w) fs (fs ++ undeclared w ∷ []) parts.0)
    ∙ none_undeclared fs ws parts.1

-- Declared features

abbrev pub has_domain : NamedFeature → Bool
has_domain f = not (is_open f.domain)

declaration_long : (fs : List NamedFeature) (name : List ℕ) (d : Domain) → length fs ≤ length (with_declaration fs name d)
declaration_long [] name d = omega arith
declaration_long (f ∷ fs) name d =
    let rest = declaration_long fs name d in
    elim (cases_Bool (takes name f)) [
      | inl here ↦ let e = ap (length {A = NamedFeature}) (cond-true (takes name f) (declares name d ∷ fs) (f ∷ with_declaration fs name d) here) in omega arith
      | inr there ↦ let e = ap (length {A = NamedFeature}) (cond-false (takes name f) (declares name d ∷ fs) (f ∷ with_declaration fs name d) there) in
          omega arith
    ]

declaration_behind : (k : ℕ) (fs : List NamedFeature) (name : List ℕ) (d : Domain) → k ≤ length fs → list_all has_domain (drop k fs) ≡ true
    → list_all has_domain (drop k (with_declaration fs name d)) ≡ true
declaration_behind zero fs name d le h = declaration_all has_domain fs name d refl h
declaration_behind (suc k) [] name d le h = absurd (omega arith)
declaration_behind (suc k) (f ∷ fs) name d le h =
    elim (cases_Bool (takes name f)) [
      | inl here ↦ ap (λ ys. list_all has_domain (drop (suc k) ys)) (cond-true (takes name f) (declares name d ∷ fs) (f ∷ with_declaration fs name d) here) ∙ h
      | inr there ↦ ap (λ ys. list_all has_domain (drop (suc k) ys)) (cond-false (takes name f) (declares name d ∷ fs) (f ∷ with_declaration fs name d) there)
          ∙ declaration_behind k fs name d (omega arith) h
    ]

-- the features behind the first ones are declared
pub items_behind : (k : ℕ) (fs : List NamedFeature) (items : List WrittenItem) → k ≤ length fs → list_all has_domain (drop k fs) ≡ true
    → list_all has_domain (drop k (with_items fs items)) ≡ true
items_behind k fs [] le h = h
items_behind k fs (item.Feature name d ∷ is) le h =
    let long = declaration_long fs name d in
    items_behind k (with_declaration fs name d) is (omega arith) (declaration_behind k fs name d le h)
items_behind k fs (item.Rule r ∷ is) le h = items_behind k fs is le h

-- what the first feature of a name is declared with
abbrev domain_named : List NamedFeature → List ℕ → Option Domain
domain_named [] w = None
domain_named (f ∷ fs) w = cond (same_bytes w f.name) f.domain (domain_named fs w)

domain_numbered : (atoms : List (List ℕ)) (fs : List NamedFeature) (w : List ℕ)
    → option_map_or (λ x. x.declared) (slice_get (map (numbered_feature atoms) fs) (number_of (feature_names fs) w)) declared.Undeclared
    ≡ numbered_domain atoms (domain_named fs w)
domain_numbered atoms [] w = refl
domain_numbered atoms (f ∷ fs) w =
    let all = map (numbered_feature atoms) (f ∷ fs) in
    let n = number_of (feature_names fs) w in
    elim (cases_Bool (same_bytes w f.name)) [
      | inl here ↦ ap (λ m. option_map_or (λ x. x.declared) (slice_get all m) declared.Undeclared) (cond-true (same_bytes w f.name) 0 (n + 1) here)
          ∙ ap (numbered_domain atoms) (sym (cond-true (same_bytes w f.name) f.domain (domain_named fs w) here))
      | inr there ↦
          let up : n + 1 ≡ suc n = omega arith in
          ap (λ m. option_map_or (λ x. x.declared) (slice_get all m) declared.Undeclared) (cond-false (same_bytes w f.name) 0 (n + 1) there ∙ up)
          ∙ domain_numbered atoms fs w
          ∙ ap (numbered_domain atoms) (sym (cond-false (same_bytes w f.name) f.domain (domain_named fs w) there))
    ]

none_named : (fs : List NamedFeature) (w : List ℕ) → is_among (feature_names fs) w ≡ false → domain_named fs w ≡ None
none_named [] w h = refl
none_named (f ∷ fs) w h =
    let parts = or_parts (same_bytes w f.name) (is_among (feature_names fs) w) h in
    cond-false (same_bytes w f.name) f.domain (domain_named fs w) parts.0 ∙ none_named fs w parts.1

none_pushed : (fs : List NamedFeature) (u w : List ℕ) → domain_named fs w ≡ None → domain_named (fs ++ undeclared u ∷ []) w ≡ None
none_pushed [] u w h = elim (cases_Bool (same_bytes w u)) [ inl e ↦ cond-true (same_bytes w u) None None e | inr e ↦ cond-false (same_bytes w u) None None e ]
none_pushed (f ∷ fs) u w h =
    let more = domain_named (fs ++ undeclared u ∷ []) w in
    elim (cases_Bool (same_bytes w f.name)) [
      | inl e ↦ cond-true (same_bytes w f.name) f.domain more e ∙ (sym (cond-true (same_bytes w f.name) f.domain (domain_named fs w) e) ∙ h)
      | inr e ↦ cond-false (same_bytes w f.name) f.domain more e
          ∙ none_pushed fs u w (sym (cond-false (same_bytes w f.name) f.domain (domain_named fs w) e) ∙ h)
    ]

none_kept : (fs : List NamedFeature) (ws : List (List ℕ)) (w : List ℕ) → domain_named fs w ≡ None → domain_named (with_undeclared fs ws) w ≡ None
none_kept fs [] w h = h
none_kept fs (u ∷ us) w h =
    elim (cases_Bool (is_among (feature_names fs) u)) [
      | inl old ↦ ap (λ ys. domain_named (with_undeclared ys us) w) (cond-true (is_among (feature_names fs) u) fs (fs ++ undeclared u ∷ []) old)
          ∙ none_kept fs us w h
      | inr new ↦ ap (λ ys. domain_named (with_undeclared ys us) w) (cond-false (is_among (feature_names fs) u) fs (fs ++ undeclared u ∷ []) new)
          ∙ none_kept (fs ++ undeclared u ∷ []) us w (none_pushed fs u w h)
    ]

-- a feature that is declared among all is among those of the declarations
pub declared_among : (atoms : List (List ℕ)) (fs : List NamedFeature) (ws : List (List ℕ)) (w : List ℕ)
    → is_declared (option_map_or (λ x. x.declared)
    (slice_get (map (numbered_feature atoms) (with_undeclared fs ws)) (number_of (feature_names (with_undeclared fs ws)) w)) declared.Undeclared) ≡ true
    → is_among (feature_names fs) w ≡ true
declared_among atoms fs ws w h =
    elim (cases_Bool (is_among (feature_names fs) w)) [
      | inl old ↦ old
      | inr new ↦
          let none : numbered_domain atoms (domain_named (with_undeclared fs ws) w) ≡ declared.Undeclared =
          ap (numbered_domain atoms) (none_kept fs ws w (none_named fs w new)) in
          let wrong : false ≡ true = sym (ap is_declared (domain_numbered atoms (with_undeclared fs ws) w ∙ none)) ∙ h in
          absurd cc
    ]
