-- Entries stay in order as they are gathered, and each candidate that may follow becomes one.
use Rattle.std.proofs.Common.{◌≡◌, ℕ, zero, suc, ◌+◌, ◌-◌, ◌<◌, ◌≤◌, List, [], ◌∷◌, ◌++◌, map, length, get_or, Bool, true, false, ◌⊎◌, inl, inr, refl, sym, ap, subst, ◌∙◌, arith, Contains}
use Rattle.std.specs.Prelude.{if◌then◌else◌, slice_index_or, AllPairs, ◌==◌}
use Rattle.std.specs.List.{insert}
use Rattle.std.specs.Borrow.{Bor}
use Rattle.std.proofs.lemmas.List.{length-map}
use Rattle.std.proofs.lemmas.Bool.{cases_lt}
use Rattle.std.specs.declared.cmp.Ordering.{Ordering}
use Rattle.std.specs.declared.cmp.Ordering.TheVariants.{Less, Equal, Greater}
use Rattle.std.specs.Ordering.{nat_cmp, ordering_then, ordering_reverse, ordering_index, is_eq, MatchOrdering}
use Rattle.std.specs.Cmp.{IsTotalOrder, nat_cmp_total, on_total, then_total, ranks}
use Rattle.std.specs.Cmp.Lexicographic.{slice_cmp, texts_ties, on_texts, same_text}
use Rattle.derivation_trees.specs.declared.menus.Group.{Group}
use Rattle.derivation_trees.specs.declared.menus.Group.TheVariants.{Function, Name, Noun, Of, Verb, Adjective}
use Rattle.derivation_trees.specs.Menus.{group_number, entry_cmp}
use Rattle.derivations.specs.Entries.{shown, put_by, with_entry, AllBefore, IsInOrder, IsPlaceFor, tried, all_tried}
use Rattle.derivations.proofs.Members.{Among}

-- the order of entries

less_equal : {X : Type 0} → Less ≡ Equal → X
less_equal w = cc

pub less_greater : {X : Type 0} → Less ≡ Greater → X
less_greater w = cc

equal_greater : {X : Type 0} → Equal ≡ Greater → X
equal_greater w = cc

pub entry_total : IsTotalOrder entry_cmp
entry_total = then_total (on_total (λ e. group_number e.0) nat_cmp_total) (on_texts (λ e. e.1))

pub entry_trans : (a b c : Group × List ℕ) → entry_cmp a b ≡ Less → entry_cmp b c ≡ Less → entry_cmp a c ≡ Less
entry_trans a b c h k = entry_total.trans a b c h k

pub entry_flip : (a b : Group × List ℕ) → entry_cmp a b ≡ Greater → entry_cmp b a ≡ Less
entry_flip a b h = entry_total.antisymm b a ∙ ap ordering_reverse h

-- the group at a place among the groups
group_at : ℕ → Group
group_at zero = Function
group_at (suc zero) = Name
group_at (suc (suc zero)) = Noun
group_at (suc (suc (suc zero))) = Of
group_at (suc (suc (suc (suc zero)))) = Verb
group_at (suc (suc (suc (suc (suc n))))) = Adjective

group_back : (g : Group) → group_at (group_number g) ≡ g
unfolding group_at
group_back Function = refl
group_back g = refl

both_equal : (a b : Ordering) → ordering_then a b ≡ Equal → (a ≡ Equal) × (b ≡ Equal)
both_equal Less b h = less_equal h
both_equal Equal b h = (refl, h)
both_equal Greater b h = equal_greater (sym h)

number_tied : (a b : ℕ) (r : Ordering) → nat_cmp a b ≡ r → MatchOrdering r (a < b) (a ≡ b) (b < a) → r ≡ Equal → a ≡ b
number_tied a b Less w h e = less_equal e
number_tied a b Equal w h e = h
number_tied a b Greater w h e = equal_greater (sym e)

pub entry_same : (a b : Group × List ℕ) → entry_cmp a b ≡ Equal → a ≡ b
entry_same a b h =
    let parts : (nat_cmp (group_number a.0) (group_number b.0) ≡ Equal) × (slice_cmp nat_cmp a.1 b.1 ≡ Equal) =
    both_equal (nat_cmp (group_number a.0) (group_number b.0)) (slice_cmp nat_cmp a.1 b.1) h in
    let numbers : group_number a.0 ≡ group_number b.0 =
    number_tied (group_number a.0) (group_number b.0) (nat_cmp (group_number a.0) (group_number b.0)) refl (ranks (group_number a.0) (group_number b.0))
    parts.0 in
    let groups : a.0 ≡ b.0 = sym (group_back a.0) ∙ ap group_at numbers ∙ group_back b.0 in
    let texts : a.1 ≡ b.1 = same_text a.1 b.1 (sym (texts_ties a.1 b.1 ∙ ap is_eq parts.1)) in
    ap (λ g. (g, a.1)) groups ∙ ap (λ t. (b.0, t)) texts

-- putting one among others

all_put : (x e : Group × List ℕ) (xs : List (Group × List ℕ)) → AllBefore x xs → entry_cmp x e ≡ Less → AllBefore x (with_entry e xs)
all_put x e [] h k = (k, tt)
all_put x e (y ∷ ys) h k = by (entry_cmp y e) (all_put x e ys h.1 k)
  where
    by : (o : Ordering) → AllBefore x (with_entry e ys) → AllBefore x (put_by o e y ys (with_entry e ys))
    by Less later = (h.0, later)
    by Equal later = h
    by Greater later = (k, h)

all_further : (e x : Group × List ℕ) (xs : List (Group × List ℕ)) → entry_cmp e x ≡ Less → AllBefore x xs → AllBefore e xs
all_further e x [] h k = tt
all_further e x (y ∷ ys) h k = (entry_trans e x y h k.0, all_further e x ys h k.1)

pub with_entry_in_order : (e : Group × List ℕ) (xs : List (Group × List ℕ)) → IsInOrder xs → IsInOrder (with_entry e xs)
with_entry_in_order e [] h = (tt, tt)
with_entry_in_order e (x ∷ xs) h = by (entry_cmp x e) refl (with_entry_in_order e xs h.1)
  where
    by : (o : Ordering) → entry_cmp x e ≡ o → IsInOrder (with_entry e xs) → IsInOrder (put_by o e x xs (with_entry e xs))
    by Less w later = (all_put x e xs h.0 w, later)
    by Equal w later = h
    by Greater w later = ((entry_flip x e w, all_further e x xs (entry_flip x e w) h.0), h)

pub with_entry_has : (e : Group × List ℕ) (xs : List (Group × List ℕ)) → Among (with_entry e xs) e
with_entry_has e [] = inl refl
with_entry_has e (x ∷ xs) = by (entry_cmp x e) refl (with_entry_has e xs)
  where
    by : (o : Ordering) → entry_cmp x e ≡ o → Among (with_entry e xs) e → Among (put_by o e x xs (with_entry e xs)) e
    by Less w later = inr later
    by Equal w later = inl (sym (entry_same x e w))
    by Greater w later = inl refl

pub with_entry_keeps : (e y : Group × List ℕ) (xs : List (Group × List ℕ)) → Among xs y → Among (with_entry e xs) y
with_entry_keeps e y [] h = absurd h
with_entry_keeps e y (x ∷ xs) h = by (entry_cmp x e) (with_entry_keeps e y xs) h
  where
    by : (o : Ordering) → (Among xs y → Among (with_entry e xs) y) → Among (x ∷ xs) y → Among (put_by o e x xs (with_entry e xs)) y
    by Less later (inl k) = inl k
    by Less later (inr k) = inr (later k)
    by Equal later k = k
    by Greater later k = inr k

pub with_entry_from : (e y : Group × List ℕ) (xs : List (Group × List ℕ)) → Among (with_entry e xs) y → (y ≡ e) ⊎ Among xs y
with_entry_from e y [] (inl k) = inl k
with_entry_from e y [] (inr k) = absurd k
with_entry_from e y (x ∷ xs) h = by (entry_cmp x e) (with_entry_from e y xs) h
  where
    by : (o : Ordering) → (Among (with_entry e xs) y → (y ≡ e) ⊎ Among xs y) → Among (put_by o e x xs (with_entry e xs)) y → (y ≡ e) ⊎ Among (x ∷ xs) y
    by Less later (inl k) = inr (inl k)
    by Less later (inr k) = elim (later k) [ inl w ↦ inl w | inr w ↦ inr (inr w) ]
    by Equal later k = inr k
    by Greater later (inl k) = inl k
    by Greater later (inr k) = inr k

-- trying candidates

pub tried_in_order : (test : Group × List ℕ → Bool) (c : Group × List ℕ) (xs : List (Group × List ℕ)) → IsInOrder xs → IsInOrder (tried test c xs)
tried_in_order test c xs h = by (test c)
  where
    by : (b : Bool) → IsInOrder (if b then with_entry c xs else xs)
    by true = with_entry_in_order c xs h
    by false = h

pub all_tried_in_order : (test : Group × List ℕ → Bool) (cs xs : List (Group × List ℕ)) → IsInOrder xs → IsInOrder (all_tried test cs xs)
all_tried_in_order test [] xs h = h
all_tried_in_order test (c ∷ cs) xs h = all_tried_in_order test cs (tried test c xs) (tried_in_order test c xs h)

tried_keeps : (test : Group × List ℕ → Bool) (c y : Group × List ℕ) (xs : List (Group × List ℕ)) → Among xs y → Among (tried test c xs) y
tried_keeps test c y xs h = by (test c)
  where
    by : (b : Bool) → Among (if b then with_entry c xs else xs) y
    by true = with_entry_keeps c y xs h
    by false = h

pub all_tried_keeps : (test : Group × List ℕ → Bool) (cs xs : List (Group × List ℕ)) (y : Group × List ℕ) → Among xs y → Among (all_tried test cs xs) y
all_tried_keeps test [] xs y h = h
all_tried_keeps test (c ∷ cs) xs y h = all_tried_keeps test cs (tried test c xs) y (tried_keeps test c y xs h)

pub all_tried_has : (test : Group × List ℕ → Bool) (cs xs : List (Group × List ℕ)) (y : Group × List ℕ) → Among cs y → test y ≡ true
    → Among (all_tried test cs xs) y
all_tried_has test [] xs y h k = absurd h
all_tried_has test (c ∷ cs) xs y (inl e) k =
    all_tried_keeps test cs (tried test c xs) y
    (subst (λ b. Among (if b then with_entry c xs else xs) y) (sym (ap test (sym e) ∙ k))
    (subst (λ z. Among (with_entry c xs) z) (sym e) (with_entry_has c xs)))
all_tried_has test (c ∷ cs) xs y (inr h) k = all_tried_has test cs (tried test c xs) y h k

tried_from : (test : Group × List ℕ → Bool) (c y : Group × List ℕ) (xs : List (Group × List ℕ)) → Among (tried test c xs) y
    → ((y ≡ c) × (test y ≡ true)) ⊎ Among xs y
tried_from test c y xs h = by (test c) refl h
  where
    by : (b : Bool) → test c ≡ b → Among (if b then with_entry c xs else xs) y → ((y ≡ c) × (test y ≡ true)) ⊎ Among xs y
    by true w k = elim (with_entry_from c y xs k) [ inl e ↦ inl (e, ap test e ∙ w) | inr m ↦ inr m ]
    by false w k = inr k

pub all_tried_from : (test : Group × List ℕ → Bool) (cs xs : List (Group × List ℕ)) (y : Group × List ℕ) → Among (all_tried test cs xs) y
    → (Among cs y × (test y ≡ true)) ⊎ Among xs y
all_tried_from test [] xs y h = inr h
all_tried_from test (c ∷ cs) xs y h = by (all_tried_from test cs (tried test c xs) y h)
  where
    by : (Among cs y × (test y ≡ true)) ⊎ Among (tried test c xs) y → (Among (c ∷ cs) y × (test y ≡ true)) ⊎ Among xs y
    by (inl k) = inl (inr k.0, k.1)
    by (inr k) = elim (tried_from test c y xs k) [ inl w ↦ inl (inl w.0, w.1) | inr m ↦ inr m ]

pub all_tried-append : (test : Group × List ℕ → Bool) (cs ds xs : List (Group × List ℕ))
    → all_tried test (cs ++ ds) xs ≡ all_tried test ds (all_tried test cs xs)
all_tried-append test [] ds xs = refl
all_tried-append test (c ∷ cs) ds xs = all_tried-append test cs ds (tried test c xs)

-- order and membership, as menus have them

before_at : (x : Group × List ℕ) (xs : List (Group × List ℕ)) → AllBefore x xs → (k : ℕ) (d : Group × List ℕ) → k < length xs
    → entry_cmp x (slice_index_or xs k d) ≡ Less
before_at x [] h k d lt = absurd (omega (arith, lt))
before_at x (y ∷ ys) h zero d lt = h.0
before_at x (y ∷ ys) h (suc k) d lt = before_at x ys h.1 k d (omega (arith, lt))

pub all_pairs_in_order : (xs : List (Group × List ℕ)) → IsInOrder xs → AllPairs (λ entry later. entry_cmp entry later ≡ Less) xs
all_pairs_in_order [] h i j d lt within = absurd (omega (arith, within))
all_pairs_in_order (x ∷ xs) h i zero d lt within = absurd (omega (arith, lt))
all_pairs_in_order (x ∷ xs) h zero (suc j) d lt within = before_at x xs h.0 j d (omega (arith, within))
all_pairs_in_order (x ∷ xs) h (suc i) (suc j) d lt within = all_pairs_in_order xs h.1 i j d (omega (arith, lt)) (omega (arith, within))

pub contains_among : {X : Type 0} (xs : List X) (x : X) → Contains xs x → Among xs x
contains_among {X = X} xs x h = at xs h.0 h.1 h.2
  where
    at : (ys : List X) (k : ℕ) → k < length ys → slice_index_or ys k x ≡ x → Among ys x
    at [] k lt e = absurd (omega (arith, lt))
    at (y ∷ ys) zero lt e = inl (sym e)
    at (y ∷ ys) (suc k) lt e = inr (at ys k (omega (arith, lt)) e)

pub among_contains : {X : Type 0} (xs : List X) (x : X) → Among xs x → Contains xs x
among_contains [] x h = absurd h
among_contains (y ∷ ys) x (inl e) = (0, omega arith, sym e)
among_contains (y ∷ ys) x (inr h) = let one = among_contains ys x h in (suc one.0, omega (arith, one.1), one.2)

-- the place that a search finds

-- where so many are before the entry, it is put behind them
pub with_entry_at : (e : Group × List ℕ) (xs : List (Group × List ℕ)) (n : ℕ) → IsPlaceFor xs e n
    → ((d : Group × List ℕ) → n < length xs → entry_cmp (slice_index_or xs n d) e ≡ Equal → ⊥) → with_entry e xs ≡ insert xs n e
with_entry_at e [] zero place other = refl
with_entry_at e [] (suc n) place other = absurd (omega (arith, place.within))
with_entry_at e (x ∷ xs) zero place other = by (entry_cmp x e) refl
  where
    by : (o : Ordering) → entry_cmp x e ≡ o → put_by o e x xs (with_entry e xs) ≡ e ∷ x ∷ xs
    by Less w = absurd (place.at x (omega arith) w)
    by Equal w = absurd (other x (omega arith) w)
    by Greater w = refl
with_entry_at e (x ∷ xs) (suc n) place other =
    ap (λ o. put_by o e x xs (with_entry e xs)) (place.before 0 x (omega arith))
    ∙ ap (λ ys. x ∷ ys) (with_entry_at e xs n
    (record {
      within = omega (arith, place.within);
      before = λ k d lt. place.before (suc k) d (omega (arith, lt));
      at = λ d lt. place.at d (omega (arith, lt));
    }) (λ d lt. other d (omega (arith, lt))))

-- where the entry itself stands behind so many, nothing changes
pub with_entry_there : (e d : Group × List ℕ) (xs : List (Group × List ℕ)) (n : ℕ) → IsPlaceFor xs e n → n < length xs
    → entry_cmp (slice_index_or xs n d) e ≡ Equal → with_entry e xs ≡ xs
with_entry_there e d [] n place lt h = absurd (omega (arith, lt))
with_entry_there e d (x ∷ xs) zero place lt h = ap (λ o. put_by o e x xs (with_entry e xs)) h
with_entry_there e d (x ∷ xs) (suc n) place lt h =
    ap (λ o. put_by o e x xs (with_entry e xs)) (place.before 0 x (omega arith))
    ∙ ap (λ ys. x ∷ ys) (with_entry_there e d xs n
    (record {
      within = omega (arith, place.within);
      before = λ k dd l. place.before (suc k) dd (omega (arith, l));
      at = λ dd l. place.at dd (omega (arith, l));
    }) (omega (arith, lt)) h)

-- where a search between two places stands: what is below the one is before the entry, and what is at the other isn't
pub record Between (xs : List (Group × List ℕ)) (e : Group × List ℕ) (low high : ℕ) : Type 0 where
  pub less : low ≤ high
  pub within : high ≤ length xs
  pub before : (k : ℕ) (d : Group × List ℕ) → k < low → entry_cmp (slice_index_or xs k d) e ≡ Less
  pub at : (d : Group × List ℕ) → high < length xs → entry_cmp (slice_index_or xs high d) e ≡ Less → ⊥

pub shown_length : (xs : List (Group × Bor (List ℕ))) → length (map shown xs) ≡ length xs
shown_length xs = length-map xs shown

pub shown_get : (xs : List (Group × Bor (List ℕ))) (k : ℕ) (d : Group × List ℕ) (x : Group × Bor (List ℕ)) → k < length xs
    → slice_index_or (map shown xs) k d ≡ shown (get_or xs k x)
shown_get [] k d x lt = absurd (omega (arith, lt))
shown_get (y ∷ ys) zero d x lt = refl
shown_get (y ∷ ys) (suc k) d x lt = shown_get ys k d x (omega (arith, lt))

pub between_up : (xs : List (Group × Bor (List ℕ))) (e : Group × List ℕ) (low high middle : ℕ) (x : Group × Bor (List ℕ)) → IsInOrder (map shown xs)
    → Between (map shown xs) e low high → middle < high → entry_cmp (shown (get_or xs middle x)) e ≡ Less → Between (map shown xs) e (middle + 1) high
between_up xs e low high middle x order old lt less = record {
  less = omega (arith, lt);
  within = old.within;
  before = λ k d below. by k d (cases_lt k middle) below;
  at = old.at;
}
  where
    here : (d : Group × List ℕ) → slice_index_or (map shown xs) middle d ≡ shown (get_or xs middle x)
    here d = shown_get xs middle d x (omega (arith, lt, old.within, shown_length xs))

    by : (k : ℕ) (d : Group × List ℕ) → (k < middle) ⊎ (middle ≤ k) → k < middle + 1 → entry_cmp (slice_index_or (map shown xs) k d) e ≡ Less
    by k d (inl below) lt1 =
        entry_trans (slice_index_or (map shown xs) k d) (slice_index_or (map shown xs) middle d) e
        (all_pairs_in_order (map shown xs) order k middle d below (omega (arith, lt, old.within))) (ap (λ y. entry_cmp y e) (here d) ∙ less)
    by k d (inr above) lt1 =
        let same : k ≡ middle = omega (arith, above, lt1) in
        ap (λ n. entry_cmp (slice_index_or (map shown xs) n d) e) same ∙ ap (λ y. entry_cmp y e) (here d) ∙ less

-- putting at the place that was found

pub put_there : (xs : List (Group × Bor (List ℕ))) (e : Group × List ℕ) (n : ℕ) (x : Group × Bor (List ℕ)) → IsPlaceFor (map shown xs) e n → n < length xs
    → entry_cmp (shown (get_or xs n x)) e ≡ Equal → map shown xs ≡ with_entry e (map shown xs)
put_there xs e n x place lt h =
    sym (with_entry_there e (shown x) (map shown xs) n place (omega (arith, lt, shown_length xs)) (ap (λ y. entry_cmp y e) (shown_get xs n (shown x) x lt) ∙ h))

map_insert : (xs : List (Group × Bor (List ℕ))) (n : ℕ) (x : Group × Bor (List ℕ)) → map shown (insert xs n x) ≡ insert (map shown xs) n (shown x)
map_insert [] zero x = refl
map_insert [] (suc n) x = refl
map_insert (y ∷ ys) zero x = refl
map_insert (y ∷ ys) (suc n) x = ap (λ zs. shown y ∷ zs) (map_insert ys n x)

pub put_new : (xs : List (Group × Bor (List ℕ))) (e x : Group × Bor (List ℕ)) (n : ℕ) → IsPlaceFor (map shown xs) (shown e) n
    → (n < length xs → entry_cmp (shown (get_or xs n x)) (shown e) ≡ Equal → ⊥) → map shown (insert xs n e) ≡ with_entry (shown e) (map shown xs)
put_new xs e x n place other =
    map_insert xs n e ∙ sym (with_entry_at (shown e) (map shown xs) n place
    (λ d lt h. other (omega (arith, lt, shown_length xs))
    (ap (λ y. entry_cmp y (shown e)) (sym (shown_get xs n d x (omega (arith, lt, shown_length xs)))) ∙ h)))

pub index_equal : (r : Ordering) → (ordering_index r == 1) ≡ true → r ≡ Equal
index_equal Less h = cc
index_equal Equal h = refl
index_equal Greater h = cc

pub index_differs : (r : Ordering) → (ordering_index r == 1) ≡ false → r ≡ Equal → ⊥
index_differs Less h e = less_equal e
index_differs Equal h e = cc
index_differs Greater h e = equal_greater (sym e)
