-- Laws on lists, their items, and tests of each item, which std has not.
use Rattle.std.proofs.Common.{◌≡◌, ℕ, zero, suc, ◌+◌, ◌<◌, ◌≤◌, Bool, true, false, not, cond, ◌&&◌, ◌||◌, List, [], ◌∷◌, ◌++◌, map, length, get_or, take, drop, Some, None, AllPairs, filter, find, refl, sym, ap, ◌∙◌, arith}
use Rattle.std.specs.List.{list_all, list_any, flat_map, slice_get}
use Rattle.std.proofs.lemmas.Bool.{and_parts, and_from, or_parts, not-false, false≢true}
use Rattle.std.proofs.lemmas.List.{take_more, drop_more, map-append}
use Rattle.std.proofs.lemmas.List.Recursion.{found_at, found_nowhere}
use Rattle.std.proofs.lemmas.Option.{same_Some, slice_get_within, get_or_from_slice_get, slice_get-get_or}

-- Places

pub length_mapped : {X Y : Type 0} (f : X → Y) (xs : List X) → length (map f xs) ≡ length xs
length_mapped f [] = refl
length_mapped f (x ∷ xs) = let rest = length_mapped f xs in omega arith

-- the item that stands at a place
pub slice_get_at : {X : Type 0} (xs : List X) (i : ℕ) (x : X) → i < length xs → x ≡ get_or xs i x → slice_get xs i ≡ Some x
slice_get_at xs i x within is = slice_get-get_or xs i x within ∙ ap Some (sym is)

pub slice_get-append : {X : Type 0} (xs ys : List X) (i : ℕ) → i < length xs → slice_get (xs ++ ys) i ≡ slice_get xs i
slice_get-append [] ys i lt = absurd (omega arith)
slice_get-append (x ∷ xs) ys zero lt = refl
slice_get-append (x ∷ xs) ys (suc i) lt = slice_get-append xs ys i (omega arith)

pub slice_get-take : {X : Type 0} (n i : ℕ) (xs : List X) → i < n → slice_get (take n xs) i ≡ slice_get xs i
slice_get-take zero i xs lt = absurd (omega arith)
slice_get-take (suc n) i [] lt = refl
slice_get-take (suc n) zero (x ∷ xs) lt = refl
slice_get-take (suc n) (suc i) (x ∷ xs) lt = slice_get-take n i xs (omega arith)

pub slice_get_mapped : {X Y : Type 0} (f : X → Y) (xs : List X) (k : ℕ) (x : X) → slice_get xs k ≡ Some x → slice_get (map f xs) k ≡ Some (f x)
slice_get_mapped f [] k x h = absurd (cc)
slice_get_mapped f (y ∷ ys) zero x h = ap (λ z. Some (f z)) (same_Some y x h)
slice_get_mapped f (y ∷ ys) (suc k) x h = slice_get_mapped f ys k x h

-- a list that was gone over up to an item: what is left, and what is done with one more
pub drop_get_or : {X : Type 0} (xs : List X) (k : ℕ) (x : X) → k < length xs → x ≡ get_or xs k x → drop k xs ≡ x ∷ drop (k + 1) xs
drop_get_or xs k x lt is = drop_more xs k x lt ∙ ap (λ y. y ∷ drop (k + 1) xs) (sym is)

pub take_get_or : {X : Type 0} (xs : List X) (i : ℕ) (x : X) → i < length xs → x ≡ get_or xs i x → take (i + 1) xs ≡ take i xs ++ x ∷ []
take_get_or xs i x lt is = take_more xs i x lt ∙ ap (λ y. take i xs ++ y ∷ []) (sym is)

pub drop_slice_get : {X : Type 0} (xs : List X) (k : ℕ) (x : X) → slice_get xs k ≡ Some x → drop k xs ≡ x ∷ drop (k + 1) xs
drop_slice_get xs k x at = drop_more xs k x (slice_get_within xs k x at) ∙ ap (λ y. y ∷ drop (k + 1) xs) (get_or_from_slice_get xs k x x at)

pub take_slice_get : {X : Type 0} (xs : List X) (k : ℕ) (x : X) → slice_get xs k ≡ Some x → take (k + 1) xs ≡ take k xs ++ x ∷ []
take_slice_get xs k x at = take_more xs k x (slice_get_within xs k x at) ∙ ap (λ y. take k xs ++ y ∷ []) (get_or_from_slice_get xs k x x at)

pub map_take : {X Y : Type 0} (f : X → Y) (xs : List X) (i : ℕ) (x : X) → slice_get xs i ≡ Some x → map f (take (i + 1) xs) ≡ map f (take i xs) ++ f x ∷ []
map_take f xs i x at = ap (map f) (take_slice_get xs i x at) ∙ map-append f (take i xs) (x ∷ [])

-- nothing is left behind the end
pub drop_past : {X : Type 0} (xs : List X) (i : ℕ) → length xs ≤ i → drop i xs ≡ []
drop_past [] zero le = refl
drop_past [] (suc i) le = refl
drop_past (x ∷ xs) zero le = absurd (omega arith)
drop_past (x ∷ xs) (suc i) le = drop_past xs i (omega arith)

-- a relation of each two items holds of the first with the others, and of the others
pub AllPairs-head : {X : Type 0} (R : X → X → Type 0) (x : X) (xs : List X) → AllPairs R (x ∷ xs) → (k : ℕ) (d : X) → k < length xs → R x (get_or xs k d)
AllPairs-head R x xs pairs k d in_range = pairs zero (suc k) d (omega arith) (omega arith)

pub AllPairs-tail : {X : Type 0} (R : X → X → Type 0) (x : X) (xs : List X) → AllPairs R (x ∷ xs) → AllPairs R xs
AllPairs-tail R x xs pairs i j d lt in_range = pairs (suc i) (suc j) d (omega arith) (omega arith)

-- Searching

-- a test that no item passes finds none
pub find_none : {X : Type 0} (p : X → Bool) (xs : List X) → ((k : ℕ) (d : X) → k < length xs → p (get_or xs k d) ≡ false) → find p xs ≡ None
find_none p [] fails = refl
find_none p (x ∷ xs) fails = found_nowhere (find p) p Some None refl (λ _ _. refl) (x ∷ xs) x (λ k in_range. fails k x in_range)

-- a test finds the first item that passes
pub find_first : {X : Type 0} (p : X → Bool) (xs : List X) (i : ℕ) (d : X) → i < length xs → ((k : ℕ) → k < i → p (get_or xs k d) ≡ false)
    → p (get_or xs i d) ≡ true → find p xs ≡ Some (get_or xs i d)
find_first p xs i d in_range before here = found_at (find p) p Some None refl (λ _ _. refl) xs i d in_range before here

-- a filter that each item passes keeps all
pub filter_all : {X : Type 0} (p : X → Bool) (xs : List X) → ((k : ℕ) (d : X) → k < length xs → p (get_or xs k d) ≡ true) → filter p xs ≡ xs
filter_all p [] passes = refl
filter_all p (x ∷ xs) passes = by_test (p x) (passes zero x (omega arith)) (filter_all p xs (λ k d in_range. passes (suc k) d (omega arith)))
  where
    by_test : (b : Bool) → b ≡ true → filter p xs ≡ xs → cond b (x ∷ filter p xs) (filter p xs) ≡ x ∷ xs
    by_test true passed rest = ap (λ ys. x ∷ ys) rest
    by_test false passed rest = absurd (false≢true passed)

-- a map that leaves each item as it is leaves the list
pub map_same : {X : Type 0} (f : X → X) (xs : List X) → ((k : ℕ) (d : X) → k < length xs → f (get_or xs k d) ≡ get_or xs k d) → map f xs ≡ xs
map_same f [] same = refl
map_same {X} f (x ∷ xs) same = join (same zero x (omega arith)) (map_same f xs (λ k d in_range. same (suc k) d (omega arith)))
  where
    join : {y : X} {ys : List X} → y ≡ x → ys ≡ xs → y ∷ ys ≡ x ∷ xs
    join {y} {ys} head tail = cc

-- Tests of each item

pub all_append : {X : Type 0} (p : X → Bool) (xs ys : List X) → list_all p xs ≡ true → list_all p ys ≡ true → list_all p (xs ++ ys) ≡ true
all_append p [] ys h k = k
all_append p (x ∷ xs) ys h k =
    let parts = and_parts (p x) (list_all p xs) h in
    and_from (p x) (list_all p (xs ++ ys)) parts.0 (all_append p xs ys parts.1 k)

pub all_split : {X : Type 0} (p : X → Bool) (xs ys : List X) → list_all p (xs ++ ys) ≡ true → (list_all p xs ≡ true) × (list_all p ys ≡ true)
all_split p [] ys h = (refl, h)
all_split p (x ∷ xs) ys h =
    let parts = and_parts (p x) (list_all p (xs ++ ys)) h in
    let rest = all_split p xs ys parts.1 in
    (and_from (p x) (list_all p xs) parts.0 rest.0, rest.1)

pub all_flat : {X Y : Type 0} (p : Y → Bool) (f : X → List Y) (xs : List X) → list_all p (flat_map f xs) ≡ true → list_all (λ x. list_all p (f x)) xs ≡ true
all_flat p f [] h = refl
all_flat p f (x ∷ xs) h =
    let parts = all_split p (f x) (flat_map f xs) h in
    and_from (list_all p (f x)) (list_all (λ y. list_all p (f y)) xs) parts.0 (all_flat p f xs parts.1)

pub flat_all : {X Y : Type 0} (p : Y → Bool) (f : X → List Y) (xs : List X) → list_all (λ x. list_all p (f x)) xs ≡ true → list_all p (flat_map f xs) ≡ true
flat_all p f [] h = refl
flat_all p f (x ∷ xs) h =
    let parts = and_parts (list_all p (f x)) (list_all (λ y. list_all p (f y)) xs) h in
    all_append p (f x) (flat_map f xs) parts.0 (flat_all p f xs parts.1)

pub all_weaken : {X : Type 0} (p q : X → Bool) → ((x : X) → p x ≡ true → q x ≡ true) → (xs : List X) → list_all p xs ≡ true → list_all q xs ≡ true
all_weaken p q step [] h = refl
all_weaken p q step (x ∷ xs) h =
    let parts = and_parts (p x) (list_all p xs) h in
    and_from (q x) (list_all q xs) (step x parts.0) (all_weaken p q step xs parts.1)

pub all_both : {X : Type 0} (p q : X → Bool) (xs : List X) → list_all p xs ≡ true → list_all q xs ≡ true → list_all (λ x. p x && q x) xs ≡ true
all_both p q [] h k = refl
all_both p q (x ∷ xs) h k =
    let hs = and_parts (p x) (list_all p xs) h in
    let ks = and_parts (q x) (list_all q xs) k in
    and_from (p x && q x) (list_all (λ y. p y && q y) xs) (and_from (p x) (q x) hs.0 ks.0) (all_both p q xs hs.1 ks.1)

-- where no member fails, each passes
pub all_from_none : {X : Type 0} (p : X → Bool) (xs : List X) → list_any (λ x. not (p x)) xs ≡ false → list_all p xs ≡ true
all_from_none p [] h = refl
all_from_none p (x ∷ xs) h =
    let parts = or_parts (not (p x)) (list_any (λ y. not (p y)) xs) h in
    and_from (p x) (list_all p xs) (not-false (p x) parts.0) (all_from_none p xs parts.1)

pub none_each : {X : Type 0} (p q : X → Bool) → ((x : X) → p x ≡ false → q x ≡ true) → (xs : List X) → list_any p xs ≡ false → list_all q xs ≡ true
none_each p q step [] h = refl
none_each p q step (x ∷ xs) h =
    let parts = or_parts (p x) (list_any p xs) h in
    and_from (q x) (list_all q xs) (step x parts.0) (none_each p q step xs parts.1)

pub all_at : {X : Type 0} (p : X → Bool) (xs : List X) (k : ℕ) (d : X) → list_all p xs ≡ true → k < length xs → p (get_or xs k d) ≡ true
all_at p [] k d h lt = absurd (omega arith)
all_at p (x ∷ xs) zero d h lt = (and_parts (p x) (list_all p xs) h).0
all_at p (x ∷ xs) (suc k) d h lt = all_at p xs k d (and_parts (p x) (list_all p xs) h).1 (omega arith)

-- none passes, so neither does the one at a place
pub any_at : {X : Type 0} (p : X → Bool) (xs : List X) (k : ℕ) (d : X) → list_any p xs ≡ false → k < length xs → p (get_or xs k d) ≡ false
any_at p [] k d h lt = absurd (omega arith)
any_at p (x ∷ xs) zero d h lt = (or_parts (p x) (list_any p xs) h).0
any_at p (x ∷ xs) (suc k) d h lt = any_at p xs k d (or_parts (p x) (list_any p xs) h).1 (omega arith)

-- tests that are the same at each item
pub all_same : {X : Type 0} (p q : X → Bool) → ((x : X) → p x ≡ q x) → (xs : List X) → list_all p xs ≡ list_all q xs
all_same p q same [] = refl
all_same p q same (x ∷ xs) = ap (λ b. b && list_all p xs) (same x) ∙ ap (λ b. q x && b) (all_same p q same xs)

pub any_same : {X : Type 0} (p q : X → Bool) → ((x : X) → p x ≡ q x) → (xs : List X) → list_any p xs ≡ list_any q xs
any_same p q same [] = refl
any_same p q same (x ∷ xs) = ap (λ b. b || list_any p xs) (same x) ∙ ap (λ b. q x || b) (any_same p q same xs)

-- where each passes, so does the one at a place
pub all_slice_get : {X : Type 0} (p : X → Bool) (xs : List X) (i : ℕ) (x : X) → list_all p xs ≡ true → slice_get xs i ≡ Some x → p x ≡ true
all_slice_get p [] i x all is = absurd cc
all_slice_get p (y ∷ ys) zero x all is = ap p (sym (same_Some y x is)) ∙ (and_parts (p y) (list_all p ys) all).0
all_slice_get p (y ∷ ys) (suc i) x all is = all_slice_get p ys i x (and_parts (p y) (list_all p ys) all).1 is

-- a test of what a filter keeps is a test of both
pub list_any-cond : {X : Type 0} (test : X → Bool) (b : Bool) (x : X) (rest : List X) (other : Bool) → list_any test rest ≡ other
    → list_any test (cond b (x ∷ rest) rest) ≡ ((b && test x) || other)
list_any-cond test true x rest other h = ap (λ o. test x || o) h
list_any-cond test false x rest other h = h

pub list_any-filter : {X : Type 0} (test p : X → Bool) (xs : List X) → list_any test (filter p xs) ≡ list_any (λ x. p x && test x) xs
list_any-filter test p [] = refl
list_any-filter test p (x ∷ xs) = list_any-cond test (p x) x (filter p xs) (list_any (λ y. p y && test y) xs) (list_any-filter test p xs)
