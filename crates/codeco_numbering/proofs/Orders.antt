-- A stable sort by number puts features in order.
use Rattle.std.proofs.Common.{◌≡◌, ℕ, suc, ◌<◌, ◌≤◌, Bool, true, false, not, cond, eqb, ltb, List, [], ◌∷◌, map, filter, length, get_or, refl, sym, ap, subst, ◌∙◌, arith, inl, inr, Less, Equal, Greater}
use Rattle.std.specs.Ordering.{is_lt, nat_cmp}
use Rattle.std.specs.List.Sorted.{IsNonDecreasingBy, IsStableByKey, ties}
use Rattle.std.proofs.lemmas.Bool.{cases_lt, cases_order, cond-true, cond-false, lt-ltb, le-ltb, and_left, and_right, and_from}
use Rattle.codeco_text.specs.declared.written.WrittenTerm.{WrittenTerm}
use Rattle.codeco_numbering.specs.Numbered.{put_in_order, in_order}

less : (a b : ℕ) → is_lt (nat_cmp a b) ≡ ltb a b
less a b = elim (ltb a b) as (λ v. is_lt (cond v Less (cond (eqb a b) Equal Greater)) ≡ v) [
  | true ↦ refl
  | false ↦
      elim (eqb a b) as (λ v. is_lt (cond v Equal Greater) ≡ false) [ true ↦ refl | false ↦ refl ]
]

apart : (a b : ℕ) → a < b → not (is_lt (nat_cmp a b)) ≡ false
apart a b lt = ap not (less a b ∙ lt-ltb a b lt)

near : (a b : ℕ) → b ≤ a → not (is_lt (nat_cmp a b)) ≡ true
near a b ge = ap not (less a b ∙ le-ltb a b ge)

module _ {X : Type 0} (key : X → ℕ) where
  abbrev put : X → List X → List X
  put x [] = x ∷ []
  put x (y ∷ ys) = cond (ltb (key y) (key x)) (y ∷ put x ys) (x ∷ y ∷ ys)

  abbrev order : List X → List X
  order [] = []
  order (x ∷ xs) = put x (order xs)

  -- the elements with the number of this one
  abbrev like : X → List X → List X
  like z xs = filter (ties (λ x y. is_lt (nat_cmp (key x) (key y))) z) xs

  abbrev Ascends : ℕ → List X → Type 0
  Ascends n [] = Unit {0}
  Ascends n (x ∷ xs) = (n ≤ key x) × Ascends (key x) xs

  put_ascends : (n : ℕ) (x : X) (ys : List X) → n ≤ key x → Ascends n ys → Ascends n (put x ys)
  put_ascends n x [] low h = (low, tt)
  put_ascends n x (y ∷ ys) low h = elim (cases_lt (key y) (key x)) [
    | inl lt ↦ subst (Ascends n) (sym (cond-true (ltb (key y) (key x)) (y ∷ put x ys) (x ∷ y ∷ ys) (lt-ltb (key y) (key x) lt)))
        (h.0, put_ascends (key y) x ys (omega arith) h.1)
    | inr ge ↦ subst (Ascends n) (sym (cond-false (ltb (key y) (key x)) (y ∷ put x ys) (x ∷ y ∷ ys) (le-ltb (key y) (key x) ge))) (low, (ge, h.1))
  ]

  order_ascends : (xs : List X) → Ascends 0 (order xs)
  order_ascends [] = tt
  order_ascends (x ∷ xs) = put_ascends 0 x (order xs) (omega arith) (order_ascends xs)

  higher : (z x : X) → key z < key x → ties (λ x y. is_lt (nat_cmp (key x) (key y))) z x ≡ false
  higher z x lt = and_left (not (is_lt (nat_cmp (key z) (key x)))) (not (is_lt (nat_cmp (key x) (key z)))) (apart (key z) (key x) lt)

  lower : (z x : X) → key x < key z → ties (λ x y. is_lt (nat_cmp (key x) (key y))) z x ≡ false
  lower z x lt = and_right (not (is_lt (nat_cmp (key z) (key x)))) (not (is_lt (nat_cmp (key x) (key z)))) (apart (key x) (key z) lt)

  agree : (z x : X) → key z ≡ key x → ties (λ x y. is_lt (nat_cmp (key x) (key y))) z x ≡ true
  agree z x e = and_from (not (is_lt (nat_cmp (key z) (key x)))) (not (is_lt (nat_cmp (key x) (key z)))) (near (key z) (key x) (omega arith))
      (near (key x) (key z) (omega arith))

  keeps : (z x : X) (xs : List X) → key z ≡ key x → like z (x ∷ xs) ≡ x ∷ like z xs
  keeps z x xs e = cond-true (ties (λ x y. is_lt (nat_cmp (key x) (key y))) z x) (x ∷ like z xs) (like z xs) (agree z x e)

  skips_lower : (z x : X) (xs : List X) → key x < key z → like z (x ∷ xs) ≡ like z xs
  skips_lower z x xs lt = cond-false (ties (λ x y. is_lt (nat_cmp (key x) (key y))) z x) (x ∷ like z xs) (like z xs) (lower z x lt)

  skips_higher : (z x : X) (xs : List X) → key z < key x → like z (x ∷ xs) ≡ like z xs
  skips_higher z x xs lt = cond-false (ties (λ x y. is_lt (nat_cmp (key x) (key y))) z x) (x ∷ like z xs) (like z xs) (higher z x lt)

  step : (z x : X) (xs ys : List X) → like z xs ≡ like z ys → like z (x ∷ xs) ≡ like z (x ∷ ys)
  step z x xs ys e = ap (λ l. cond (ties (λ x y. is_lt (nat_cmp (key x) (key y))) z x) (x ∷ l) l) e

  -- two elements of different numbers may change places
  swap_like : (z x y : X) (ys : List X) → key y < key x → like z (y ∷ x ∷ ys) ≡ like z (x ∷ y ∷ ys)
  swap_like z x y ys lt = elim (cases_lt (key z) (key x)) [
    | inl below ↦ step z y (x ∷ ys) ys (skips_higher z x ys below) ∙ sym (skips_higher z x (y ∷ ys) below)
    | inr above ↦
        let far : key y < key z = omega arith in
        skips_lower z y (x ∷ ys) far ∙ step z x ys (y ∷ ys) (sym (skips_lower z y ys far))
  ]

  put_like : (z x : X) (ys : List X) → like z (put x ys) ≡ like z (x ∷ ys)
  put_like z x [] = refl
  put_like z x (y ∷ ys) = elim (cases_lt (key y) (key x)) [
    | inl lt ↦ ap (like z) (cond-true (ltb (key y) (key x)) (y ∷ put x ys) (x ∷ y ∷ ys) (lt-ltb (key y) (key x) lt))
        ∙ step z y (put x ys) (x ∷ ys) (put_like z x ys) ∙ swap_like z x y ys lt
    | inr ge ↦ ap (like z) (cond-false (ltb (key y) (key x)) (y ∷ put x ys) (x ∷ y ∷ ys) (le-ltb (key y) (key x) ge))
  ]

  order_like : (z : X) (xs : List X) → like z (order xs) ≡ like z xs
  order_like z [] = refl
  order_like z (x ∷ xs) = put_like z x (order xs) ∙ step z x (order xs) xs (order_like z xs)

  -- no element of a lower number stands in a list that ascends
  none_lower : (z : X) (n : ℕ) (xs : List X) → key z < n → Ascends n xs → like z xs ≡ []
  none_lower z n [] lt h = refl
  none_lower z n (x ∷ xs) lt h = skips_higher z x xs (omega arith) ∙ none_lower z (key x) xs (omega arith) h.1

  -- without the first elements, which are one
  rest_like : (z x : X) (xs ys : List X) → like z (x ∷ xs) ≡ like z (x ∷ ys) → like z xs ≡ like z ys
  rest_like z x xs ys e = elim (cases_order (key z) (key x)) [
    | inl same ↦ let both : x ∷ like z xs ≡ x ∷ like z ys = sym (keeps z x xs same) ∙ e ∙ keeps z x ys same in (cc)
    | inr (inl lt) ↦ sym (skips_higher z x xs lt) ∙ e ∙ skips_higher z x ys lt
    | inr (inr gt) ↦ sym (skips_lower z x xs gt) ∙ e ∙ skips_lower z x ys gt
  ]

  -- two lists that ascend and have the same elements of each number, in one order, are one
  one_order : (n : ℕ) (xs ys : List X) → Ascends n xs → Ascends n ys → ((z : X) → like z xs ≡ like z ys) → xs ≡ ys
  one_order n [] [] a b e = refl
  one_order n [] (y ∷ ys) a b e = let no : [] ≡ y ∷ like y ys = e y ∙ keeps y y ys refl in absurd (cc)
  one_order n (x ∷ xs) [] a b e = let no : [] ≡ x ∷ like x xs = sym (e x) ∙ keeps x x xs refl in absurd (cc)
  one_order n (x ∷ xs) (y ∷ ys) a b e = elim (cases_order (key x) (key y)) [
    | inl same ↦
        let both : x ∷ like x xs ≡ y ∷ like x ys = sym (keeps x x xs refl) ∙ e x ∙ keeps x y ys same in
        let first : x ≡ y = (cc) in
        let rest : xs ≡ ys = one_order (key x) xs ys a.1 (subst (λ k. Ascends k ys) (sym same) b.1)
        (λ z. rest_like z x xs ys (e z ∙ ap (λ w. like z (w ∷ ys)) (sym first))) in
        (λ i. first i ∷ rest i)
    | inr (inl lt) ↦ let no : [] ≡ x ∷ like x xs = sym (skips_higher x y ys lt ∙ none_lower x (key y) ys lt b.1) ∙ sym (e x) ∙ keeps x x xs refl in absurd (cc)
    | inr (inr gt) ↦ let no : [] ≡ y ∷ like y ys = sym (skips_higher y x xs gt ∙ none_lower y (key x) xs gt a.1) ∙ e y ∙ keeps y y ys refl in absurd (cc)
  ]

  tail_rises : (x : X) (xs : List X) → IsNonDecreasingBy key (x ∷ xs) → IsNonDecreasingBy key xs
  tail_rises x xs h = λ i j d le lt. h (suc i) (suc j) d (omega arith) (omega arith)

  rises_ascends : (n : ℕ) (xs : List X) → ((x : X) → (ys : List X) → xs ≡ x ∷ ys → n ≤ key x) → IsNonDecreasingBy key xs → Ascends n xs
  rises_ascends n [] low h = tt
  rises_ascends n (x ∷ xs) low h = (
    low x xs refl,
    rises_ascends (key x) xs (λ y ys e. let lt : 1 < length (x ∷ xs) = (let k : length xs ≡ length (y ∷ ys) = ap length e in omega arith) in
        subst (λ l. key x ≤ key (get_or l 0 x)) e (h 0 1 x (omega arith) lt)) (tail_rises x xs h),
  )

  -- a list that rises and keeps the order of elements of one number is the one that is put in order
  sorted_order : (xs ys : List X) → IsNonDecreasingBy key ys → IsStableByKey key nat_cmp xs ys → ys ≡ order xs
  sorted_order xs ys up stable = one_order 0 ys (order xs) (rises_ascends 0 ys (λ x l e. omega arith) up) (order_ascends xs)
      (λ z. stable z ∙ sym (order_like z xs))

module _ {X : Type 0} (read : X → ℕ × WrittenTerm) where
  read_put : (x : X) (ys : List X) → map read (put (λ y. (read y).0) x ys) ≡ put_in_order (read x) (map read ys)
  read_put x [] = refl
  read_put x (y ∷ ys) = by (ltb (read y).0 (read x).0) (read_put x ys)
    where
      by : (b : Bool) → map read (put (λ y. (read y).0) x ys) ≡ put_in_order (read x) (map read ys)
          → map read (cond b (y ∷ put (λ y. (read y).0) x ys) (x ∷ y ∷ ys))
          ≡ cond b (read y ∷ put_in_order (read x) (map read ys)) (read x ∷ read y ∷ map read ys)
      by true rest = ap (λ l. read y ∷ l) rest
      by false rest = refl

  read_order : (xs : List X) → map read (order (λ y. (read y).0) xs) ≡ in_order (map read xs)
  read_order [] = refl
  read_order (x ∷ xs) = read_put x (order (λ y. (read y).0) xs) ∙ ap (put_in_order (read x)) (read_order xs)

  pub sorted_is : (xs ys : List X) → IsNonDecreasingBy (λ y. (read y).0) ys → IsStableByKey (λ y. (read y).0) nat_cmp xs ys
      → map read ys ≡ in_order (map read xs)
  sorted_is xs ys up stable = ap (map read) (sorted_order (λ y. (read y).0) xs ys up stable) ∙ read_order xs
