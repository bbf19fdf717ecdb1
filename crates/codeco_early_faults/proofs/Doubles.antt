-- Names that stand twice, found name by name.
use Rattle.std.proofs.Common.{◌≡◌, ℕ, ◌+◌, ◌<◌, Bool, true, false, not, cond, ◌&&◌, ◌||◌, List, [], ◌∷◌, ◌++◌, drop, get_or, length, refl, sym, ap, subst, ◌∙◌, append_assoc}
use Rattle.std.proofs.lemmas.List.{at_drop_more}
use Rattle.std.proofs.lemmas.Bool.{not-true, not-false}
use Rattle.std.specs.List.{list_any}
use Rattle.codeco_numbering.proofs.Sound.Tables.{among_append, differ_push}
use Rattle.codeco_text.specs.declared.written.WrittenItem.{WrittenItem}
use Rattle.codeco_text.specs.declared.written.WrittenItem.TheVariants as item
use Rattle.codeco_text.specs.Names.{is_among}
use Rattle.codeco_checked.specs.Numbering.{differ}
use Rattle.codeco_numbering.specs.Numbered.{gathered}
use Rattle.codeco_early_faults.specs.Early.{item_names, declared_names}
use Rattle.codeco_early_faults.proofs.Counting.{differ_move}

-- the names before, and those that are left, where the first of them stands before
pub stands_before : (before left : List (List ℕ)) (w : List ℕ) → is_among before w ≡ true → differ (before ++ w ∷ left) ≡ false
stands_before before left w e =
    differ_move before left w ∙ ap (λ b. not b && differ (before ++ left)) (among_append before left w)
    ∙ ap (λ b. not (b || is_among left w) && differ (before ++ left)) e

-- a name that is new is put behind those before
pub new_behind : (before left next : List (List ℕ)) (w : List ℕ) → is_among before w ≡ false → next ≡ gathered before (w ∷ []) → differ before ≡ true
    → (differ next ≡ true) × (differ (next ++ left) ≡ differ (before ++ w ∷ left))
new_behind before left next w e is h =
    let pushed : next ≡ before ++ w ∷ [] = is ∙ ap (λ b. cond b before (before ++ w ∷ [])) e in
    (ap differ pushed ∙ differ_push before w h e, ap (λ (l : List (List ℕ)). differ (l ++ left)) pushed ∙ ap differ (append_assoc before (w ∷ []) left))

-- what `put` told of a name
pub told_old : (names : List (List ℕ)) (b : Bool) (v w : List ℕ) → b ≡ not (is_among names v) → v ≡ w → b ≡ false → is_among names w ≡ true
told_old names b v w told is h = subst (λ x. is_among names x ≡ true) is (not-false (is_among names v) (sym told ∙ h))

pub told_new : (names : List (List ℕ)) (b : Bool) (v w : List ℕ) → b ≡ not (is_among names v) → v ≡ w → b ≡ true → is_among names w ≡ false
told_new names b v w told is h = subst (λ x. is_among names x ≡ false) is (not-true (is_among names v) (sym told ∙ h))

-- one turn of a loop over names
module _ (before xs : List (List ℕ)) (i : ℕ) (x : List ℕ) (lt : i < length xs) (is : x ≡ get_or xs i x) (left : differ (before ++ drop i xs) ≡ differ xs) where
  turned : differ (before ++ x ∷ drop (i + 1) xs) ≡ differ xs
  turned = ap (λ y. differ (before ++ y ∷ drop (i + 1) xs)) is ∙ sym (at_drop_more (λ ys. differ (before ++ ys)) xs i x lt) ∙ left

  pub turn_stands : is_among before x ≡ true → false ≡ differ xs
  turn_stands e = sym (stands_before before (drop (i + 1) xs) x e) ∙ turned

  pub turn_new : (next : List (List ℕ)) → is_among before x ≡ false → next ≡ gathered before (x ∷ []) → differ before ≡ true
      → (differ next ≡ true) × (differ (next ++ drop (i + 1) xs) ≡ differ xs)
  turn_new next e made h =
      let both = new_behind before (drop (i + 1) xs) next x e made h in
      (both.0, both.1 ∙ turned)

-- the names before, where an item declares one of them
item_stands : (before left : List (List ℕ)) (i : WrittenItem) → list_any (is_among before) (item_names i) ≡ true
    → differ (before ++ (item_names i ++ left)) ≡ false
item_stands before left (item.Rule r) h = absurd cc
item_stands before left (item.Feature name d) h = stands_before before left name (sym (last (is_among before name)) ∙ h)
  where
    last : (a : Bool) → (a || false) ≡ a
    last true = refl
    last false = refl

item_new : (before left next : List (List ℕ)) (i : WrittenItem) → list_any (is_among before) (item_names i) ≡ false → next ≡ gathered before (item_names i)
    → differ before ≡ true → (differ next ≡ true) × (differ (next ++ left) ≡ differ (before ++ (item_names i ++ left)))
item_new before left next (item.Rule r) h made d = (ap differ made ∙ d, ap (λ (l : List (List ℕ)). differ (l ++ left)) made)
item_new before left next (item.Feature name dom) h made d = new_behind before left next name (sym (last (is_among before name)) ∙ h) made d
  where
    last : (a : Bool) → (a || false) ≡ a
    last true = refl
    last false = refl

-- one turn of a loop over items
module _ (before : List (List ℕ)) (xs : List WrittenItem) (i : ℕ) (x : WrittenItem) (lt : i < length xs) (is : x ≡ get_or xs i x)
    (left : differ (before ++ declared_names (drop i xs)) ≡ differ (declared_names xs)) where
  item_turned : differ (before ++ (item_names x ++ declared_names (drop (i + 1) xs))) ≡ differ (declared_names xs)
  item_turned = ap (λ y. differ (before ++ (item_names y ++ declared_names (drop (i + 1) xs)))) is
      ∙ sym (at_drop_more (λ ys. differ (before ++ declared_names ys)) xs i x lt) ∙ left

  pub item_turn_stands : (b : Bool) → b ≡ not (list_any (is_among before) (item_names x)) → b ≡ false → false ≡ differ (declared_names xs)
  item_turn_stands b told h = sym (item_stands before (declared_names (drop (i + 1) xs)) x
      (not-false (list_any (is_among before) (item_names x)) (sym told ∙ h))) ∙ item_turned

  pub item_turn_new : (b : Bool) (next : List (List ℕ)) → b ≡ not (list_any (is_among before) (item_names x)) → b ≡ true → next ≡ gathered before (item_names x)
      → differ before ≡ true → (differ next ≡ true) × (differ (next ++ declared_names (drop (i + 1) xs)) ≡ differ (declared_names xs))
  item_turn_new b next told h made d =
      let both = item_new before (declared_names (drop (i + 1) xs)) next x (not-true (list_any (is_among before) (item_names x)) (sym told ∙ h)) made d in
      (both.0, both.1 ∙ item_turned)
