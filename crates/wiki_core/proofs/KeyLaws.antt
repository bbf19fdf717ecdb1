-- Laws on lists whose elements are found by a key.
use Rattle.std.proofs.Common.{◌≡◌, ℕ, zero, suc, ◌<◌, ◌==◌, Bool, true, false, cond, List, [], ◌∷◌, map, filter, find, All, AllPairs, Option, Some, None, option_map, refl, sym, ap, subst, ◌∙◌, arith}
use Rattle.std.proofs.lemmas.Bool.{false≢true, eqb-true, eqb-false}
use Rattle.std.proofs.lemmas.List.Elements.{All-nil, All-cons, All-head, All-tail, All-weaker}
use Rattle.std.proofs.lemmas.Option.{none-some, same_Some}
use Rattle.wiki_base.proofs.ListLaws.{AllPairs-tail}

-- what is found passes
pub found_passes : {X : Type 0} (test : X → Bool) (xs : List X) (x : X) → find test xs ≡ Some x → test x ≡ true
found_passes test [] x found = absurd (none-some x found)
found_passes {X} test (y ∷ ys) x found = by_test (test y) refl (found_passes test ys x) found
  where
    by_test : (b : Bool) → test y ≡ b → (find test ys ≡ Some x → test x ≡ true) → cond b (Some y) (find test ys) ≡ Some x → test x ≡ true
    by_test true is rest here = subst (λ (z : X). test z ≡ true) (same_Some y x here) is
    by_test false is rest later = rest later

-- what is found is one of the list
pub found_has : {X : Type 0} (P : X → Type 0) (test : X → Bool) (xs : List X) (x : X) → All P xs → find test xs ≡ Some x → P x
found_has P test [] x all found = absurd (none-some x found)
found_has {X} P test (y ∷ ys) x all found = by_test (test y) (found_has P test ys x (All-tail P y ys all)) found
  where
    by_test : (b : Bool) → (find test ys ≡ Some x → P x) → cond b (Some y) (find test ys) ≡ Some x → P x
    by_test true rest here = subst P (same_Some y x here) (All-head P y ys all)
    by_test false rest later = rest later

-- a filter that all pass that a search passes is as good as none
pub find_filter : {X : Type 0} (test p : X → Bool) → ((x : X) → test x ≡ true → p x ≡ true) → (xs : List X) → find test (filter p xs) ≡ find test xs
find_filter test p passes [] = refl
find_filter {X} test p passes (x ∷ xs) = by_tests (test x) (p x) refl refl (find_filter test p passes xs)
  where
    by_tests : (b c : Bool) → test x ≡ b → p x ≡ c → find test (filter p xs) ≡ find test xs
        → find test (cond c (x ∷ filter p xs) (filter p xs)) ≡ cond b (Some x) (find test xs)
    by_tests b true is kept rest = ap (λ (t : Bool). cond t (Some x) (find test (filter p xs))) is ∙ ap (λ (o : Option X). cond b (Some x) o) rest
    by_tests true false is dropped rest = absurd (false≢true (sym dropped ∙ passes x is))
    by_tests false false is dropped rest = rest

-- a filter that nothing passes that a search passes leaves nothing
pub find_filtered : {X : Type 0} (test p : X → Bool) → ((x : X) → p x ≡ true → test x ≡ false) → (xs : List X) → find test (filter p xs) ≡ None
find_filtered test p fails [] = refl
find_filtered {X} test p fails (x ∷ xs) = by_test (p x) refl (find_filtered test p fails xs)
  where
    by_test : (c : Bool) → p x ≡ c → find test (filter p xs) ≡ None → find test (cond c (x ∷ filter p xs) (filter p xs)) ≡ None
    by_test true kept rest = ap (λ (t : Bool). cond t (Some x) (find test (filter p xs))) (fails x kept) ∙ rest
    by_test false dropped rest = rest

-- what passes a filter has what each has, and what the filter asks
pub all_filtered : {X : Type 0} (P Q : X → Type 0) (p : X → Bool) → ((x : X) → p x ≡ true → P x → Q x) → (xs : List X) → All P xs → All Q (filter p xs)
all_filtered P Q p gives [] all = All-nil Q
all_filtered {X} P Q p gives (x ∷ xs) all = by_test (p x) refl (all_filtered P Q p gives xs (All-tail P x xs all))
  where
    by_test : (b : Bool) → p x ≡ b → All Q (filter p xs) → All Q (cond b (x ∷ filter p xs) (filter p xs))
    by_test true kept rest = All-cons Q x (filter p xs) (gives x kept (All-head P x xs all)) rest
    by_test false dropped rest = rest

-- the element, changed where it has the key
abbrev pub changed_at : {X : Type 0} → (X → ℕ) → ℕ → (X → X) → X → X
changed_at key n change x = cond (key x == n) (change x) x

-- a change that keeps keys keeps them
pub key_stays : {X : Type 0} (key : X → ℕ) (n : ℕ) (change : X → X) → ((x : X) → key (change x) ≡ key x) → (x : X) → key (changed_at key n change x) ≡ key x
key_stays {X} key n change keeps x = by_test (key x == n)
  where
    by_test : (b : Bool) → key (cond b (change x) x) ≡ key x
    by_test true = keeps x
    by_test false = refl

-- a search by a key finds what it found, changed where it has the key that changes
pub find_changed : {X : Type 0} (key : X → ℕ) (n m : ℕ) (change : X → X) → ((x : X) → key (change x) ≡ key x) → (xs : List X)
    → find (λ x. key x == m) (map (changed_at key n change) xs) ≡ option_map (changed_at key n change) (find (λ x. key x == m) xs)
find_changed key n m change keeps [] = refl
find_changed {X} key n m change keeps (x ∷ xs) =
    ap (λ (k : ℕ). cond (k == m) (Some (changed_at key n change x)) (find (λ y. key y == m) (map (changed_at key n change) xs)))
    (key_stays key n change keeps x)
    ∙ by_test (key x == m) (find_changed key n m change keeps xs)
  where
    by_test : (b : Bool) → find (λ y. key y == m) (map (changed_at key n change) xs) ≡ option_map (changed_at key n change) (find (λ y. key y == m) xs)
        → cond b (Some (changed_at key n change x)) (find (λ y. key y == m) (map (changed_at key n change) xs))
        ≡ option_map (changed_at key n change) (cond b (Some x) (find (λ y. key y == m) xs))
    by_test true rest = refl
    by_test false rest = rest

-- what holds of each element and each later one holds of the head with each in the tail, and in the tail
pub pairs_head : {X : Type 0} (R : X → X → Type 0) (x : X) (xs : List X) → AllPairs R (x ∷ xs) → All (R x) xs
pairs_head R x xs pairs k d in_range = pairs zero (suc k) d (omega arith) (omega arith)

-- where keys rise, what is found is the only one with its key
pub only_one : {X : Type 0} (key : X → ℕ) (n : ℕ) (xs : List X) → AllPairs (λ x y. key x < key y) xs → (found : X) → find (λ x. key x == n) xs ≡ Some found
    → All (λ x. key x ≡ n → x ≡ found) xs
only_one key n [] rise found is = absurd (none-some found is)
only_one {X} key n (x ∷ xs) rise found is = by_test (key x == n) refl (only_one key n xs (AllPairs-tail (λ x y. key x < key y) x xs rise) found) is
  where
    later : All (λ y. key x < key y) xs
    later = pairs_head (λ x y. key x < key y) x xs rise

    by_test : (b : Bool) → (key x == n) ≡ b → (find (λ y. key y == n) xs ≡ Some found → All (λ y. key y ≡ n → y ≡ found) xs)
        → cond b (Some x) (find (λ y. key y == n) xs) ≡ Some found → All (λ y. key y ≡ n → y ≡ found) (x ∷ xs)
    by_test true here rest is = All-cons (λ y. key y ≡ n → y ≡ found) x xs (λ _. same_Some x found is)
        (All-weaker (λ y. key x < key y) (λ y. key y ≡ n → y ≡ found)
        (λ y above same. let at = eqb-true (key x) n here in absurd (omega (arith, above, same, at))) xs later)
    by_test false not_here rest is = All-cons (λ y. key y ≡ n → y ≡ found) x xs (λ same. absurd (eqb-false (key x) n not_here same)) (rest is)

-- what each element has, and what is found has after the change, each has after it
pub all_changed : {X : Type 0} (P Q : X → Type 0) (key : X → ℕ) (n : ℕ) (change : X → X) (found : X) → ((x : X) → P x → Q x) → Q (change found)
    → (xs : List X) → All P xs → All (λ x. key x ≡ n → x ≡ found) xs → All Q (map (changed_at key n change) xs)
all_changed P Q key n change found gives here [] all one = All-nil Q
all_changed {X} P Q key n change found gives here (x ∷ xs) all one =
    All-cons Q (changed_at key n change x) (map (changed_at key n change) xs) (by_test (key x == n) refl)
    (all_changed P Q key n change found gives here xs (All-tail P x xs all) (All-tail (λ y. key y ≡ n → y ≡ found) x xs one))
  where
    by_test : (b : Bool) → (key x == n) ≡ b → Q (cond b (change x) x)
    by_test true is = subst (λ (y : X). Q (change y)) (sym (All-head (λ y. key y ≡ n → y ≡ found) x xs one (eqb-true (key x) n is))) here
    by_test false is = gives x (All-head P x xs all)

-- two changes of the element with a key are one
pub changed_twice : {X : Type 0} (key : X → ℕ) (n : ℕ) (first second : X → X) → ((x : X) → key (first x) ≡ key x) → (xs : List X)
    → map (changed_at key n second) (map (changed_at key n first) xs) ≡ map (changed_at key n (λ x. second (first x))) xs
changed_twice key n first second keeps [] = refl
changed_twice {X} key n first second keeps (x ∷ xs) =
    ap (λ (y : X). y ∷ map (changed_at key n second) (map (changed_at key n first) xs)) (by_test (key x == n) refl)
    ∙ ap (λ (ys : List X). changed_at key n (λ y. second (first y)) x ∷ ys) (changed_twice key n first second keeps xs)
  where
    by_test : (b : Bool) → (key x == n) ≡ b → changed_at key n second (cond b (first x) x) ≡ cond b (second (first x)) x
    by_test true is = ap (λ (k : ℕ). cond (k == n) (second (first x)) (first x)) (keeps x) ∙ ap (λ (b : Bool). cond b (second (first x)) (first x)) is
    by_test false is = ap (λ (b : Bool). cond b (second x) x) is
