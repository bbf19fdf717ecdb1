-- Whether a feature is declared, by its number and by its name.
use Rattle.std.proofs.Common.{◌≡◌, ℕ, ◌+◌, Bool, true, false, not, cond, ◌&&◌, ◌||◌, List, [], ◌∷◌, ◌++◌, map, Option, Some, None, refl, sym, ap, subst, ◌∙◌, add-one, inl, inr}
use Rattle.std.specs.Prelude.{slice_get}
use Rattle.std.specs.List.{flat_map}
use Rattle.std.specs.Option.{option_map_or}
use Rattle.std.proofs.lemmas.Bool.{cases_Bool, both_ways, and_from, and_parts, cond-true, cond-false}
use Rattle.codeco_terms.specs.declared.declarations.Declared.TheVariants as declared
use Rattle.codeco_text.specs.declared.written.Domain.{Domain}
use Rattle.codeco_text.specs.declared.written.Domain.TheVariants as domain
use Rattle.codeco_text.specs.declared.written.WrittenItem.{WrittenItem}
use Rattle.codeco_text.specs.declared.written.WrittenItem.TheVariants as item
use Rattle.codeco_text.specs.Names.{same_bytes, is_among}
use Rattle.codeco_text.proofs.Growth.{same_is}
use Rattle.codeco_checked.specs.Numbering.{is_declared, first_features}
use Rattle.codeco_numbering.specs.Numbered.{NamedFeature, undeclared, is_open, with_declaration, with_items, with_undeclared, all_features, rules_of, written_features, number_of, numbered_domain, numbered_feature}
use Rattle.codeco_early_faults.specs.Early.{declared_names}

-- the first feature of this name has a declaration
abbrev pub is_filled : List NamedFeature → List ℕ → Bool
is_filled [] w = false
is_filled (f ∷ fs) w = cond (same_bytes w f.name) (not (is_open f.domain)) (is_filled fs w)

filled_domain : (atoms : List (List ℕ)) (o : Option Domain) → is_declared (numbered_domain atoms o) ≡ not (is_open o)
filled_domain atoms None = refl
filled_domain atoms (Some domain.Words) = refl
filled_domain atoms (Some domain.Positions) = refl
filled_domain atoms (Some (domain.Atoms ws)) = refl

-- what the feature of a number is declared with, where the number is a name's
pub number_filled : (atoms : List (List ℕ)) (fs : List NamedFeature) (w : List ℕ)
    → is_declared (option_map_or (λ x. x.declared) (slice_get (map (numbered_feature atoms) fs) (number_of (map (λ f. f.name) fs) w)) declared.Undeclared)
    ≡ is_filled fs w
number_filled atoms [] w = refl
number_filled atoms (f ∷ fs) w = by (same_bytes w f.name) refl (number_filled atoms fs w)
  where
    by : (b : Bool) → same_bytes w f.name ≡ b
        → is_declared (option_map_or (λ x. x.declared) (slice_get (map (numbered_feature atoms) fs) (number_of (map (λ f. f.name) fs) w)) declared.Undeclared)
        ≡ is_filled fs w → is_declared (option_map_or (λ x. x.declared)
        (slice_get (map (numbered_feature atoms) (f ∷ fs)) (number_of (map (λ f. f.name) (f ∷ fs)) w)) declared.Undeclared) ≡ is_filled (f ∷ fs) w
    by true e rest =
        ap (λ (b : Bool). is_declared (option_map_or (λ x. x.declared)
        (slice_get (map (numbered_feature atoms) (f ∷ fs)) (cond b 0 (number_of (map (λ f. f.name) fs) w + 1))) declared.Undeclared)) e
        ∙ filled_domain atoms f.domain ∙ sym (ap (λ (b : Bool). cond b (not (is_open f.domain)) (is_filled fs w)) e)
    by false e rest =
        ap (λ (b : Bool). is_declared (option_map_or (λ x. x.declared)
        (slice_get (map (numbered_feature atoms) (f ∷ fs)) (cond b 0 (number_of (map (λ f. f.name) fs) w + 1))) declared.Undeclared)) e
        ∙ rw add-one rest ∙ sym (ap (λ (b : Bool). cond b (not (is_open f.domain)) (is_filled fs w)) e)

-- A declaration fills the first feature of its name.
filled_here : (n w m : List ℕ) (o : Option Domain) (rest : Bool) → (same_bytes n m && is_open o) ≡ true
    → cond (same_bytes w n) true rest ≡ (same_bytes w n || cond (same_bytes w m) (not (is_open o)) rest)
filled_here n w m o rest h =
    let parts = and_parts (same_bytes n m) (is_open o) h in
    let same : n ≡ m = same_is n m parts.0 in
    subst (λ x. cond (same_bytes w n) true rest ≡ (same_bytes w n || cond (same_bytes w x) (not (is_open o)) rest)) same
    (pick (same_bytes w n) (not (is_open o)) rest)
  where
    pick : (a b c : Bool) → cond a true c ≡ (a || cond a b c)
    pick true b c = refl
    pick false b c = refl

filled_there : (n w m : List ℕ) (o : Option Domain) (rest : Bool) → (same_bytes n m && is_open o) ≡ false
    → cond (same_bytes w m) (not (is_open o)) (same_bytes w n || rest) ≡ (same_bytes w n || cond (same_bytes w m) (not (is_open o)) rest)
filled_there n w m o rest h = by (same_bytes w m) (same_bytes w n) (is_open o) refl refl refl
  where
    by : (a b p : Bool) → same_bytes w m ≡ a → same_bytes w n ≡ b → is_open o ≡ p → cond a (not p) (b || rest) ≡ (b || cond a (not p) rest)
    by false b p ea eb ep = refl
    by true false p ea eb ep = refl
    by true true false ea eb ep = refl
    by true true true ea eb ep =
        let first : w ≡ n = same_is w n eb in
        let nm : same_bytes n m ≡ true = subst (λ x. same_bytes x m ≡ true) first ea in
        absurd (both_ways (same_bytes n m && is_open o) h (and_from (same_bytes n m) (is_open o) nm ep))

filled_declaration : (fs : List NamedFeature) (n : List ℕ) (d : Domain) (w : List ℕ)
    → is_filled (with_declaration fs n d) w ≡ (same_bytes w n || is_filled fs w)
filled_declaration [] n d w = pick (same_bytes w n)
  where
    pick : (a : Bool) → cond a true false ≡ (a || false)
    pick true = refl
    pick false = refl
filled_declaration (f ∷ fs) n d w =
    let test = same_bytes n f.name && is_open f.domain in
    let filled : List NamedFeature = record { name = n; domain = Some d } ∷ fs in
    let passed : List NamedFeature = f ∷ with_declaration fs n d in
    elim (cases_Bool test) [
      | inl e ↦ ap (λ (l : List NamedFeature). is_filled l w) (cond-true test filled passed e) ∙ filled_here n w f.name f.domain (is_filled fs w) e
      | inr e ↦
          ap (λ (l : List NamedFeature). is_filled l w) (cond-false test filled passed e)
          ∙ ap (λ (b : Bool). cond (same_bytes w f.name) (not (is_open f.domain)) b) (filled_declaration fs n d w)
          ∙ filled_there n w f.name f.domain (is_filled fs w) e
    ]

or_move : (a b c : Bool) → (a || (b || c)) ≡ ((b || a) || c)
or_move true true c = refl
or_move true false c = refl
or_move false true c = refl
or_move false false c = refl

filled_items : (items : List WrittenItem) (fs : List NamedFeature) (w : List ℕ)
    → is_filled (with_items fs items) w ≡ (is_among (declared_names items) w || is_filled fs w)
filled_items [] fs w = refl
filled_items (item.Rule r ∷ items) fs w = filled_items items fs w
filled_items (item.Feature n d ∷ items) fs w =
    filled_items items (with_declaration fs n d) w
    ∙ ap (λ b. is_among (declared_names items) w || b) (filled_declaration fs n d w)
    ∙ or_move (is_among (declared_names items) w) (same_bytes w n) (is_filled fs w)

filled_push : (fs : List NamedFeature) (v w : List ℕ) → is_filled (fs ++ undeclared v ∷ []) w ≡ is_filled fs w
filled_push [] v w = none (same_bytes w v)
  where
    none : (a : Bool) → cond a false false ≡ false
    none true = refl
    none false = refl
filled_push (f ∷ fs) v w = ap (λ (b : Bool). cond (same_bytes w f.name) (not (is_open f.domain)) b) (filled_push fs v w)

filled_undeclared : (fs : List NamedFeature) (vs : List (List ℕ)) (w : List ℕ) → is_filled (with_undeclared fs vs) w ≡ is_filled fs w
filled_undeclared fs [] w = refl
filled_undeclared fs (v ∷ vs) w =
    let there = is_among (map (λ f. f.name) fs) v in
    let more : List NamedFeature = fs ++ undeclared v ∷ [] in
    filled_undeclared (cond there fs more) vs w ∙ elim (cases_Bool there) [
      | inl e ↦ ap (λ (l : List NamedFeature). is_filled l w) (cond-true there fs more e)
      | inr e ↦ ap (λ (l : List NamedFeature). is_filled l w) (cond-false there fs more e) ∙ filled_push fs v w
    ]

none_filled : (ns : List (List ℕ)) (w : List ℕ) → is_filled (map undeclared ns) w ≡ false
none_filled [] w = refl
none_filled (n ∷ ns) w = ap (λ (b : Bool). cond (same_bytes w n) false b) (none_filled ns w) ∙ both (same_bytes w n)
  where
    both : (a : Bool) → cond a false false ≡ false
    both true = refl
    both false = refl

-- the feature of a name is declared where an item declares the name
pub filled_features : (items : List WrittenItem) (w : List ℕ) → is_filled (all_features items) w ≡ is_among (declared_names items) w
filled_features items w =
    filled_undeclared (with_items (map undeclared first_features) items) (flat_map written_features (rules_of items)) w
    ∙ filled_items items (map undeclared first_features) w
    ∙ ap (λ b. is_among (declared_names items) w || b) (none_filled first_features w)
    ∙ last (is_among (declared_names items) w)
  where
    last : (a : Bool) → (a || false) ≡ a
    last true = refl
    last false = refl
