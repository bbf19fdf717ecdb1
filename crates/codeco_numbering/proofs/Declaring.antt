-- Features that are declared and noted one by one.
use Rattle.std.proofs.Common.{◌≡◌, ℕ, ◌+◌, ◌<◌, ◌≤◌, Bool, true, false, not, ◌&&◌, ◌||◌, ◌⊎◌, cond, ltb, List, [], ◌∷◌, ◌++◌, map, length, set, Some, refl, sym, ap, subst, ◌∙◌, arith, inl, inr, add-one}
use Rattle.std.proofs.lemmas.Bool.{cases_lt, lt-ltb, le-ltb, and_parts, and_from, or_cases, or_left, or_right, both_ways, not-true, not_from_false, false_from_ne_true}
use Rattle.codeco_text.specs.declared.written.Domain.{Domain}
use Rattle.codeco_text.specs.declared.written.WrittenItem.{WrittenItem}
use Rattle.codeco_text.specs.declared.written.WrittenItem.TheVariants as item
use Rattle.codeco_text.specs.Names.{same_bytes, is_among}
use Rattle.codeco_text.proofs.Growth.{same_is, same_bytes_refl}
use Rattle.codeco_checked.specs.Numbering.{differ}
use Rattle.codeco_numbering.specs.Numbered.{number_of, NamedFeature, is_open, undeclared, with_declaration, with_item, with_items, with_undeclared}

-- a name is among others exactly where its number is below how many there are
pub among_number : (ns : List (List ℕ)) (w : List ℕ) → ltb (number_of ns w) (length ns) ≡ is_among ns w
among_number [] w = refl
among_number (x ∷ xs) w = by (same_bytes w x) (among_number xs w)
  where
    by : (s : Bool) → ltb (number_of xs w) (length xs) ≡ is_among xs w → ltb (cond s 0 (number_of xs w + 1)) (length (x ∷ xs)) ≡ (s || is_among xs w)
    by true rest = lt-ltb 0 (length (x ∷ xs)) (omega arith)
    by false rest = elim (cases_lt (number_of xs w) (length xs)) [
      | inl lt ↦ lt-ltb (number_of xs w + 1) (length (x ∷ xs)) (omega arith) ∙ sym (lt-ltb (number_of xs w) (length xs) lt) ∙ rest
      | inr ge ↦ le-ltb (number_of xs w + 1) (length (x ∷ xs)) (omega arith) ∙ sym (le-ltb (number_of xs w) (length xs) ge) ∙ rest
    ]

abbrev names : List NamedFeature → List (List ℕ)
names fs = map (λ f. f.name) fs

module _ (name : List ℕ) (d : Domain) where
  abbrev made : NamedFeature
  made = record { name = name; domain = Some d }

  declared_there : (fs : List NamedFeature) → is_among (names (with_declaration fs name d)) name ≡ true
  declared_there [] = or_left (same_bytes name name) false (same_bytes_refl name)
  declared_there (f ∷ fs) = by (same_bytes name f.name && is_open f.domain) (declared_there fs)
    where
      by : (b : Bool) → is_among (names (with_declaration fs name d)) name ≡ true
          → is_among (names (cond b (made ∷ fs) (f ∷ with_declaration fs name d))) name ≡ true
      by true rest = or_left (same_bytes name name) (is_among (names fs) name) (same_bytes_refl name)
      by false rest = or_right (same_bytes name f.name) (is_among (names (with_declaration fs name d)) name) rest

  -- a closed feature of this name would be there twice
  no_second : (f : NamedFeature) (fs : List NamedFeature) → name ≡ f.name → differ (names (f ∷ with_declaration fs name d)) ≡ true → ⊥
  no_second f fs e h =
      let parts = and_parts (not (is_among (names (with_declaration fs name d)) f.name)) (differ (names (with_declaration fs name d))) h in
      both_ways (is_among (names (with_declaration fs name d)) f.name) (not-true (is_among (names (with_declaration fs name d)) f.name) parts.0)
      (subst (λ w. is_among (names (with_declaration fs name d)) w ≡ true) e (declared_there fs))

  tail_differ : (f : NamedFeature) (fs : List NamedFeature) → differ (names (f ∷ fs)) ≡ true → differ (names fs) ≡ true
  tail_differ f fs h = (and_parts (not (is_among (names fs) f.name)) (differ (names fs)) h).1

  -- where names differ, a feature that is there is declared at its place
  pub declared_set : (fs : List NamedFeature) → differ (names (with_declaration fs name d)) ≡ true → number_of (names fs) name < length fs
      → set fs (number_of (names fs) name) made ≡ with_declaration fs name d
  declared_set [] h lt = absurd (omega arith)
  declared_set (f ∷ fs) h lt = by (same_bytes name f.name) (is_open f.domain) (same_is name f.name) h lt (declared_set fs)
    where
      n : ℕ
      n = number_of (names fs) name

      by : (s o : Bool) → (s ≡ true → name ≡ f.name) → differ (names (cond (s && o) (made ∷ fs) (f ∷ with_declaration fs name d))) ≡ true
          → cond s 0 (number_of (names fs) name + 1) < length (f ∷ fs)
          → (differ (names (with_declaration fs name d)) ≡ true → number_of (names fs) name < length fs
          → set fs (number_of (names fs) name) made ≡ with_declaration fs name d)
          → set (f ∷ fs) (cond s 0 (number_of (names fs) name + 1)) made ≡ cond (s && o) (made ∷ fs) (f ∷ with_declaration fs name d)
      by true true e h lt rest = refl
      by true false e h lt rest = absurd (no_second f fs (e refl) h)
      by false o e h lt rest = ap (λ k. set (f ∷ fs) k made) (add-one (number_of (names fs) name))
          ∙ ap (λ l. f ∷ l) (rest (tail_differ f (with_declaration fs name d) h) (omega arith))

  -- and the names stay
  pub declared_names : (fs : List NamedFeature) → differ (names (with_declaration fs name d)) ≡ true → number_of (names fs) name < length fs
      → names (with_declaration fs name d) ≡ names fs
  declared_names [] h lt = absurd (omega arith)
  declared_names (f ∷ fs) h lt = by (same_bytes name f.name) (is_open f.domain) (same_is name f.name) h lt (declared_names fs)
    where
      by : (s o : Bool) → (s ≡ true → name ≡ f.name) → differ (names (cond (s && o) (made ∷ fs) (f ∷ with_declaration fs name d))) ≡ true
          → cond s 0 (number_of (names fs) name + 1) < length (f ∷ fs)
          → (differ (names (with_declaration fs name d)) ≡ true → number_of (names fs) name < length fs → names (with_declaration fs name d) ≡ names fs)
          → names (cond (s && o) (made ∷ fs) (f ∷ with_declaration fs name d)) ≡ names (f ∷ fs)
      by true true e h lt rest = ap (λ w. w ∷ names fs) (e refl)
      by true false e h lt rest = absurd (no_second f fs (e refl) h)
      by false o e h lt rest = ap (λ l. f.name ∷ l) (rest (tail_differ f (with_declaration fs name d) h) (omega arith))

  -- a feature that isn't there is declared behind the others
  pub declared_last : (fs : List NamedFeature) → length fs ≤ number_of (names fs) name → fs ++ made ∷ [] ≡ with_declaration fs name d
  declared_last [] ge = refl
  declared_last (f ∷ fs) ge = by (same_bytes name f.name) (is_open f.domain) ge (declared_last fs)
    where
      by : (s o : Bool) → length (f ∷ fs) ≤ cond s 0 (number_of (names fs) name + 1)
          → (length fs ≤ number_of (names fs) name → fs ++ made ∷ [] ≡ with_declaration fs name d)
          → f ∷ (fs ++ made ∷ []) ≡ cond (s && o) (made ∷ fs) (f ∷ with_declaration fs name d)
      by true o ge rest = absurd (omega arith)
      by false o ge rest = ap (λ l. f ∷ l) (rest (omega arith))

  still_among : (w : List ℕ) (fs : List NamedFeature) → is_among (names fs) w ≡ true → is_among (names (with_declaration fs name d)) w ≡ true
  still_among w [] h = absurd (cc)
  still_among w (f ∷ fs) h = by (same_bytes name f.name) (is_open f.domain) (same_is name f.name) (or_cases (same_bytes w f.name) (is_among (names fs) w) h)
      (still_among w fs)
    where
      by : (s o : Bool) → (s ≡ true → name ≡ f.name) → (same_bytes w f.name ≡ true) ⊎ (is_among (names fs) w ≡ true)
          → (is_among (names fs) w ≡ true → is_among (names (with_declaration fs name d)) w ≡ true)
          → is_among (names (cond (s && o) (made ∷ fs) (f ∷ with_declaration fs name d))) w ≡ true
      by true true e (inl same) rest = or_left (same_bytes w name) (is_among (names fs) w) (subst (λ x. same_bytes w x ≡ true) (sym (e refl)) same)
      by true true e (inr more) rest = or_right (same_bytes w name) (is_among (names fs) w) more
      by true false e (inl same) rest = or_left (same_bytes w f.name) (is_among (names (with_declaration fs name d)) w) same
      by true false e (inr more) rest = or_right (same_bytes w f.name) (is_among (names (with_declaration fs name d)) w) (rest more)
      by false o e (inl same) rest = or_left (same_bytes w f.name) (is_among (names (with_declaration fs name d)) w) same
      by false o e (inr more) rest = or_right (same_bytes w f.name) (is_among (names (with_declaration fs name d)) w) (rest more)

  -- names that differ with a declaration differ before it
  declared_differ : (fs : List NamedFeature) → differ (names (with_declaration fs name d)) ≡ true → differ (names fs) ≡ true
  declared_differ [] h = refl
  declared_differ (f ∷ fs) h = by (same_bytes name f.name) (is_open f.domain) (same_is name f.name) h (declared_differ fs)
    where
      rest_differ : differ (names (f ∷ with_declaration fs name d)) ≡ true → (differ (names (with_declaration fs name d)) ≡ true → differ (names fs) ≡ true)
          → differ (names (f ∷ fs)) ≡ true
      rest_differ g rest =
          let parts = and_parts (not (is_among (names (with_declaration fs name d)) f.name)) (differ (names (with_declaration fs name d))) g in
          let new : is_among (names fs) f.name ≡ false =
          false_from_ne_true (is_among (names fs) f.name)
          (λ t. both_ways (is_among (names (with_declaration fs name d)) f.name) (not-true (is_among (names (with_declaration fs name d)) f.name) parts.0)
          (still_among f.name fs t)) in
          and_from (not (is_among (names fs) f.name)) (differ (names fs)) (not_from_false (is_among (names fs) f.name) new) (rest parts.1)

      by : (s o : Bool) → (s ≡ true → name ≡ f.name) → differ (names (cond (s && o) (made ∷ fs) (f ∷ with_declaration fs name d))) ≡ true
          → (differ (names (with_declaration fs name d)) ≡ true → differ (names fs) ≡ true) → differ (names (f ∷ fs)) ≡ true
      by true true e g rest = subst (λ w. differ (w ∷ names fs) ≡ true) (e refl) g
      by true false e g rest = rest_differ g rest
      by false o e g rest = rest_differ g rest

pub item_differ : (i : WrittenItem) (fs : List NamedFeature) → differ (names (with_item fs i)) ≡ true → differ (names fs) ≡ true
item_differ (item.Feature name d) fs h = declared_differ name d fs h
item_differ (item.Rule r) fs h = h

-- names that differ with all items differ before them
pub items_differ : (is : List WrittenItem) (fs : List NamedFeature) → differ (names (with_items fs is)) ≡ true → differ (names fs) ≡ true
items_differ [] fs h = h
items_differ (i ∷ is) fs h = item_differ i fs (items_differ is (with_item fs i) h)

pub noted_append : (fs : List NamedFeature) (xs ys : List (List ℕ)) → with_undeclared fs (xs ++ ys) ≡ with_undeclared (with_undeclared fs xs) ys
noted_append fs [] ys = refl
noted_append fs (x ∷ xs) ys = noted_append (cond (is_among (names fs) x) fs (fs ++ undeclared x ∷ [])) xs ys
