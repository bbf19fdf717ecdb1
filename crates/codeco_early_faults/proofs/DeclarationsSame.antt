-- The faults of declarations in the numbered grammar are those of the declarations as they are written.
use Rattle.std.proofs.Common.{◌≡◌, ℕ, Bool, true, false, not, cond, ◌&&◌, ◌||◌, ltb, List, [], ◌∷◌, ◌++◌, map, length, filter, Option, Some, None, refl, sym, ap, ◌∙◌, append-nil, inl, inr}
use Rattle.std.specs.List.{list_any, list_all, flat_map}
use Rattle.std.proofs.lemmas.List.{map-append, length-map}
use Rattle.std.proofs.lemmas.Bool.{cases_Bool, and_parts, and_right, cond-true, cond-false, or_parts, or_right, not-true}
use Rattle.codeco_text.specs.declared.written.Domain.{Domain}
use Rattle.codeco_text.specs.declared.written.Domain.TheVariants as domain
use Rattle.codeco_text.specs.declared.written.WrittenItem.{WrittenItem}
use Rattle.codeco_text.specs.declared.written.WrittenItem.TheVariants as item
use Rattle.codeco_text.specs.Names.{same_bytes, is_among}
use Rattle.codeco_text.proofs.Growth.{same_is}
use Rattle.codeco_checked.specs.Numbering.{differ, count_different, is_declared, declared_atoms, grammar_atoms, first_features, first_atoms}
use Rattle.codeco_checked.specs.Faults.{count_texts, is_double, has_large_declarations, has_double_declaration}
use Rattle.codeco_numbering.specs.Numbered.{NamedFeature, undeclared, is_open, number_of, with_declaration, with_items, with_undeclared, all_features, atoms_of, rules_of, written_features, domain_atoms, feature_atoms, numbered_feature, numbered_of}
use Rattle.wiki_base.proofs.ListLaws.{all_flat}
use Rattle.codeco_numbering.proofs.Sound.Tables.{among_append, differ_push}
use Rattle.codeco_numbering.proofs.Sound.Contents.{domain_numbers}
use Rattle.codeco_numbering.proofs.Sound.Declared.{numbered_names}
use Rattle.codeco_early_faults.specs.Early as early
use Rattle.codeco_early_faults.specs.Early.{item_atoms, declared_names, has_large_written_declarations, has_double_written_declaration}
use Rattle.codeco_early_faults.proofs.Moves.{Same, same_refl, same_trans, same_append, same_put, same_map, same_parts, same_test, any_move}
use Rattle.codeco_early_faults.proofs.Counting.{count_texts_move, differ_move, differ_counts}
use Rattle.codeco_early_faults.proofs.Numbers.{all_among, all_gathered, numbers_differ}
use Rattle.codeco_early_faults.proofs.Doubles.{stands_before}
use Rattle.codeco_early_faults.proofs.Declared.{declared_of, declarations, with_domain, declare_put, features_declared, declaration_names, declaration_atoms, feature_names, atoms_in, feature_atoms_in}

-- Limits

names_counted : (items : List WrittenItem)
    → count_texts (map (λ f. f.name) (filter (λ f. is_declared f.declared) (numbered_of items).features)) ≡ count_texts (declared_names items)
names_counted items =
    let fs = all_features items in
    let same : Same (map (λ p. p.0) (declared_of fs)) (map (λ p. p.0) (declarations items)) = same_map (λ p. p.0) (features_declared items) in
    ap count_texts (feature_names (atoms_of fs) fs) ∙ same.moved count_texts count_texts_move ∙ ap count_texts (declaration_names items)

feature_numbers : (atoms : List (List ℕ)) (fs : List NamedFeature)
    → flat_map (λ f. declared_atoms f.declared) (map (numbered_feature atoms) fs) ≡ map (number_of atoms) (atoms_in fs)
feature_numbers atoms [] = refl
feature_numbers atoms (f ∷ fs) =
    ap (λ (l : List ℕ). l ++ flat_map (λ x. declared_atoms x.declared) (map (numbered_feature atoms) fs)) (domain_numbers atoms f.domain)
    ∙ ap (λ (l : List ℕ). map (number_of atoms) (feature_atoms f.domain) ++ l) (feature_numbers atoms fs)
    ∙ sym (map-append (number_of atoms) (feature_atoms f.domain) (atoms_in fs))

atoms_there : (fs : List NamedFeature) → all_among (atoms_of fs) (atoms_in fs) ≡ true
atoms_there fs = all_gathered first_atoms (atoms_in fs)

atoms_counted : (items : List WrittenItem) → count_different (grammar_atoms (numbered_of items)) ≡ count_texts (early.declared_atoms items)
atoms_counted items =
    let fs = all_features items in
    let same : Same (flat_map (λ p. domain_atoms p.1) (declared_of fs)) (flat_map (λ p. domain_atoms p.1) (declarations items)) =
    same_parts (λ p. domain_atoms p.1) (features_declared items) in
    ap count_different (feature_numbers (atoms_of fs) fs)
    ∙ numbers_differ (atoms_of fs) (atoms_in fs) (atoms_there fs)
    ∙ ap count_texts (sym (feature_atoms_in fs))
    ∙ same.moved count_texts count_texts_move
    ∙ ap count_texts (declaration_atoms items)

pub large_declarations : (items : List WrittenItem) → has_large_declarations (numbered_of items) ≡ has_large_written_declarations items
large_declarations items =
    ap (λ n. ltb 1000 n || ltb 10000 (count_different (grammar_atoms (numbered_of items)))) (names_counted items)
    ∙ ap (λ n. ltb 1000 (count_texts (declared_names items)) || ltb 10000 n) (atoms_counted items)

-- Doubles

abbrev names_in : List NamedFeature → List (List ℕ)
names_in fs = map (λ f. f.name) fs

abbrev declared_in : List NamedFeature → List (List ℕ)
declared_in fs = map (λ p. p.0) (declared_of fs)

-- the first feature of this name without a declaration is there
abbrev has_open : List NamedFeature → List ℕ → Bool
has_open fs name = list_any (λ f. same_bytes name f.name && is_open f.domain) fs

filled_names : (fs : List NamedFeature) (name : List ℕ) (d : Domain) → has_open fs name ≡ true → names_in (with_declaration fs name d) ≡ names_in fs
filled_names [] name d h = absurd cc
filled_names (f ∷ fs) name d h =
    let test = same_bytes name f.name && is_open f.domain in
    let filled : List NamedFeature = record { name = name; domain = Some d } ∷ fs in
    let passed : List NamedFeature = f ∷ with_declaration fs name d in
    elim (cases_Bool test) [
      | inl e ↦
          ap names_in (cond-true test filled passed e)
          ∙ ap (λ (w : List ℕ). w ∷ names_in fs) (same_is name f.name (and_parts (same_bytes name f.name) (is_open f.domain) e).0)
      | inr e ↦
          ap names_in (cond-false test filled passed e)
          ∙ ap (λ (l : List (List ℕ)). f.name ∷ l) (filled_names fs name d (sym (ap (λ b. b || has_open fs name) e) ∙ h))
    ]

pushed_names : (fs : List NamedFeature) (name : List ℕ) (d : Domain) → has_open fs name ≡ false
    → names_in (with_declaration fs name d) ≡ names_in fs ++ name ∷ []
pushed_names [] name d h = refl
pushed_names (f ∷ fs) name d h =
    let test = same_bytes name f.name && is_open f.domain in
    let filled : List NamedFeature = record { name = name; domain = Some d } ∷ fs in
    let passed : List NamedFeature = f ∷ with_declaration fs name d in
    let parts = or_parts test (has_open fs name) h in
    ap names_in (cond-false test filled passed parts.0) ∙ ap (λ (l : List (List ℕ)). f.name ∷ l) (pushed_names fs name d parts.1)

-- a name that no open feature has is there where a declared feature has it
closed_among : (fs : List NamedFeature) (name : List ℕ) → has_open fs name ≡ false → is_among (names_in fs) name ≡ is_among (declared_in fs) name
closed_among [] name h = refl
closed_among (f ∷ fs) name h =
    let parts = or_parts (same_bytes name f.name && is_open f.domain) (has_open fs name) h in
    by f.domain parts.0 (closed_among fs name parts.1)
  where
    by : (o : Option Domain) → (same_bytes name f.name && is_open o) ≡ false → is_among (names_in fs) name ≡ is_among (declared_in fs) name
        → (same_bytes name f.name || is_among (names_in fs) name) ≡ is_among (map (λ p. p.0) (with_domain f.name o ++ declared_of fs)) name
    by None e rest = ap (λ b. b || is_among (names_in fs) name) (sym (last (same_bytes name f.name)) ∙ e) ∙ rest
      where
        last : (a : Bool) → (a && true) ≡ a
        last true = refl
        last false = refl
    by (Some d) e rest = ap (λ b. same_bytes name f.name || b) rest

-- once a name stands twice it stays so
stays_double : (xs ys : List (List ℕ)) → differ xs ≡ false → differ (xs ++ ys) ≡ false
stays_double [] ys h = absurd cc
stays_double (x ∷ xs) ys h = elim (cases_Bool (is_among xs x)) [
  | inl e ↦ ap (λ b. not b && differ (xs ++ ys)) (among_append xs ys x ∙ ap (λ b. b || is_among ys x) e)
  | inr e ↦ and_right (not (is_among (xs ++ ys) x)) (differ (xs ++ ys)) (stays_double xs ys (sym (ap (λ b. not b && differ xs) e) ∙ h))
]

items_stay_double : (items : List WrittenItem) (fs : List NamedFeature) → differ (names_in fs) ≡ false → differ (names_in (with_items fs items)) ≡ false
items_stay_double [] fs h = h
items_stay_double (item.Rule r ∷ items) fs h = items_stay_double items fs h
items_stay_double (item.Feature name d ∷ items) fs h = items_stay_double items (with_declaration fs name d) (elim (cases_Bool (has_open fs name)) [
  | inl e ↦ ap differ (filled_names fs name d e) ∙ h
  | inr e ↦ ap differ (pushed_names fs name d e) ∙ stays_double (names_in fs) (name ∷ []) h
])

-- no two declared features have one name where no two features have
declared_differ : (fs : List NamedFeature) → differ (names_in fs) ≡ true → differ (declared_in fs) ≡ true
declared_differ [] h = refl
declared_differ (f ∷ fs) h =
    let parts = and_parts (not (is_among (names_in fs) f.name)) (differ (names_in fs)) h in
    by f.domain (not-true (is_among (names_in fs) f.name) parts.0) (declared_differ fs parts.1)
  where
    fewer : (gs : List NamedFeature) (w : List ℕ) → is_among (names_in gs) w ≡ false → is_among (declared_in gs) w ≡ false
    fewer [] w e = refl
    fewer (g ∷ gs) w e =
        let parts = or_parts (same_bytes w g.name) (is_among (names_in gs) w) e in
        one g.domain parts.0 (fewer gs w parts.1)
      where
        one : (o : Option Domain) → same_bytes w g.name ≡ false → is_among (declared_in gs) w ≡ false
            → is_among (map (λ p. p.0) (with_domain g.name o ++ declared_of gs)) w ≡ false
        one None e rest = rest
        one (Some d) e rest = ap (λ b. b || is_among (declared_in gs) w) e ∙ rest

    by : (o : Option Domain) → is_among (names_in fs) f.name ≡ false → differ (declared_in fs) ≡ true
        → differ (map (λ p. p.0) (with_domain f.name o ++ declared_of fs)) ≡ true
    by None e rest = rest
    by (Some d) e rest = ap (λ b. not b && differ (declared_in fs)) (fewer fs f.name e) ∙ rest

items_differ : (items : List WrittenItem) (fs : List NamedFeature) → differ (names_in fs) ≡ true
    → differ (names_in (with_items fs items)) ≡ differ (declared_names items ++ declared_in fs)
items_differ [] fs h = h ∙ sym (declared_differ fs h)
items_differ (item.Rule r ∷ items) fs h = items_differ items fs h
items_differ (item.Feature name d ∷ items) fs h =
    by (has_open fs name) (is_among (names_in fs) name) refl refl (λ k. items_differ items (with_declaration fs name d) k)
  where
    moved : Same (declared_names items ++ declared_in (with_declaration fs name d)) (name ∷ (declared_names items ++ declared_in fs))
    moved = same_trans (same_append (same_refl (declared_names items)) (same_map (λ p. p.0) (declare_put fs name d)))
        (same_put (declared_names items) (declared_in fs) name)

    by : (a b : Bool) → has_open fs name ≡ a → is_among (names_in fs) name ≡ b
        → (differ (names_in (with_declaration fs name d)) ≡ true
        → differ (names_in (with_items (with_declaration fs name d) items)) ≡ differ (declared_names items ++ declared_in (with_declaration fs name d)))
        → differ (names_in (with_items (with_declaration fs name d) items)) ≡ differ (name ∷ (declared_names items ++ declared_in fs))
    by true b e f rest = rest (ap differ (filled_names fs name d e) ∙ h) ∙ same_test moved differ differ_move
    by false false e f rest = rest (ap differ (pushed_names fs name d e) ∙ differ_push (names_in fs) name h f) ∙ same_test moved differ differ_move
    by false true e f rest =
        let there : is_among (declared_names items ++ declared_in fs) name ≡ true =
        among_append (declared_names items) (declared_in fs) name
        ∙ or_right (is_among (declared_names items) name) (is_among (declared_in fs) name) (sym (closed_among fs name e) ∙ f) in
        items_stay_double items (with_declaration fs name d) (ap differ (pushed_names fs name d e) ∙ stands_before (names_in fs) [] name f)
        ∙ sym (ap (λ b. not b && differ (declared_names items ++ declared_in fs)) there)

undeclared_differ : (fs : List NamedFeature) (ws : List (List ℕ)) → differ (names_in (with_undeclared fs ws)) ≡ differ (names_in fs)
undeclared_differ fs [] = refl
undeclared_differ fs (w ∷ ws) =
    let there = is_among (names_in fs) w in
    let more : List NamedFeature = fs ++ undeclared w ∷ [] in
    undeclared_differ (cond there fs more) ws ∙ elim (cases_Bool there) [
      | inl e ↦ ap (λ (l : List NamedFeature). differ (names_in l)) (cond-true there fs more e)
      | inr e ↦
          ap (λ (l : List NamedFeature). differ (names_in l)) (cond-false there fs more e)
          ∙ ap differ (map-append (λ f. f.name) fs (undeclared w ∷ []))
          ∙ differ_move (names_in fs) [] w
          ∙ ap (λ (l : List (List ℕ)). differ (w ∷ l)) (append-nil (names_in fs))
          ∙ ap (λ b. not b && differ (names_in fs)) e
    ]

features_differ : (items : List WrittenItem) → differ (names_in (all_features items)) ≡ differ (declared_names items)
features_differ items =
    let first = map undeclared first_features in
    undeclared_differ (with_items first items) (flat_map written_features (rules_of items))
    ∙ items_differ items first refl
    ∙ ap differ (append-nil (declared_names items))

double_numbers : (atoms ws : List (List ℕ)) → all_among atoms ws ≡ true → is_double (map (number_of atoms) ws) ≡ not (differ ws)
double_numbers atoms ws h =
    ap (λ n. ltb n (length (map (number_of atoms) ws))) (numbers_differ atoms ws h)
    ∙ ap (ltb (count_texts ws)) (length-map ws (number_of atoms))
    ∙ differ_counts ws

doubles_numbered : (atoms : List (List ℕ)) (fs : List NamedFeature) → list_all (λ f. all_among atoms (feature_atoms f.domain)) fs ≡ true
    → list_any (λ f. is_double (declared_atoms f.declared)) (map (numbered_feature atoms) fs) ≡ list_any (λ p. not (differ (domain_atoms p.1))) (declared_of fs)
doubles_numbered atoms [] h = refl
doubles_numbered atoms (f ∷ fs) h =
    let parts = and_parts (all_among atoms (feature_atoms f.domain)) (list_all (λ x. all_among atoms (feature_atoms x.domain)) fs) h in
    ap (λ b. b || list_any (λ x. is_double (declared_atoms x.declared)) (map (numbered_feature atoms) fs))
    (ap is_double (domain_numbers atoms f.domain) ∙ double_numbers atoms (feature_atoms f.domain) parts.0)
    ∙ ap (λ b. not (differ (feature_atoms f.domain)) || b) (doubles_numbered atoms fs parts.1)
    ∙ one f.domain
  where
    one : (o : Option Domain) → (not (differ (feature_atoms o)) || list_any (λ p. not (differ (domain_atoms p.1))) (declared_of fs))
        ≡ list_any (λ p. not (differ (domain_atoms p.1))) (with_domain f.name o ++ declared_of fs)
    one None = refl
    one (Some d) = refl

doubles_declared : (items : List WrittenItem)
    → list_any (λ p. not (differ (domain_atoms p.1))) (declarations items) ≡ list_any (λ i. not (differ (item_atoms i))) items
doubles_declared [] = refl
doubles_declared (item.Rule r ∷ items) = doubles_declared items
doubles_declared (item.Feature name d ∷ items) = ap (λ b. not (differ (domain_atoms d)) || b) (doubles_declared items)

pub double_declaration : (items : List WrittenItem) → has_double_declaration (numbered_of items) ≡ has_double_written_declaration items
double_declaration items =
    let fs = all_features items in
    let atoms = atoms_of fs in
    let there = all_flat (is_among atoms) (λ f. feature_atoms f.domain) fs (atoms_there fs) in
    ap (λ b. not b || list_any (λ f. is_double (declared_atoms f.declared)) (map (numbered_feature atoms) fs))
    (ap differ (numbered_names atoms fs) ∙ features_differ items)
    ∙ ap (λ b. not (differ (declared_names items)) || b)
    (doubles_numbered atoms fs there
    ∙ same_test (features_declared items) (list_any (λ p. not (differ (domain_atoms p.1)))) (any_move (λ p. not (differ (domain_atoms p.1))))
    ∙ doubles_declared items)
