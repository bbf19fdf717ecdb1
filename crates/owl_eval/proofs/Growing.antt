-- Lists that grow and shrink, by what each item is mapped to and what is true of each.
use Rattle.std.proofs.Common.{◌≡◌, ℕ, zero, suc, Bool, true, Result, Ok, Err, OnOk, OnErr, List, [], ◌∷◌, ◌++◌, take, drop, map, refl, ap, ◌∙◌}
use Rattle.std.specs.List.{list_all, insert_slice, remove_range}
use Rattle.std.proofs.lemmas.Bool.{and_from, and_parts}
use Rattle.std.proofs.lemmas.List.{map-append}
use Rattle.std.proofs.lemmas.List.Folds.{list_all-append}

module _ {X Y : Type 0} (f : X → Y) where
  take-map : (n : ℕ) (xs : List X) → map f (take n xs) ≡ take n (map f xs)
  take-map zero xs = refl
  take-map (suc n) [] = refl
  take-map (suc n) (x ∷ xs) = ap (λ (ys : List Y). f x ∷ ys) (take-map n xs)

  drop-map : (n : ℕ) (xs : List X) → map f (drop n xs) ≡ drop n (map f xs)
  drop-map zero xs = refl
  drop-map (suc n) [] = refl
  drop-map (suc n) (x ∷ xs) = drop-map n xs

  pub map-insert_slice : (xs : List X) (i : ℕ) (ys : List X) → map f (insert_slice xs i ys) ≡ insert_slice (map f xs) i (map f ys)
  map-insert_slice xs i ys =
      map-append f (take i xs ++ ys) (drop i xs)
      ∙ ap (λ (zs : List Y). zs ++ map f (drop i xs)) (map-append f (take i xs) ys ∙ ap (λ (zs : List Y). zs ++ map f ys) (take-map i xs))
      ∙ ap (λ (zs : List Y). (take i (map f xs) ++ map f ys) ++ zs) (drop-map i xs)

  pub map-remove_range : (xs : List X) (i j : ℕ) → map f (remove_range xs i j) ≡ remove_range (map f xs) i j
  map-remove_range xs i j =
      map-append f (take i xs) (drop j xs)
      ∙ ap (λ (zs : List Y). zs ++ map f (drop j xs)) (take-map i xs)
      ∙ ap (λ (zs : List Y). take i (map f xs) ++ zs) (drop-map j xs)

module _ {X : Type 0} (p : X → Bool) where
  both : (xs ys : List X) → list_all p xs ≡ true → list_all p ys ≡ true → list_all p (xs ++ ys) ≡ true
  both xs ys one other = list_all-append p xs ys ∙ and_from (list_all p xs) (list_all p ys) one other

  front : (n : ℕ) (xs : List X) → list_all p xs ≡ true → list_all p (take n xs) ≡ true
  front zero xs all = refl
  front (suc n) [] all = refl
  front (suc n) (x ∷ xs) all =
      and_from (p x) (list_all p (take n xs)) (and_parts (p x) (list_all p xs) all).0 (front n xs (and_parts (p x) (list_all p xs) all).1)

  back : (n : ℕ) (xs : List X) → list_all p xs ≡ true → list_all p (drop n xs) ≡ true
  back zero xs all = all
  back (suc n) [] all = refl
  back (suc n) (x ∷ xs) all = back n xs (and_parts (p x) (list_all p xs) all).1

  pub all-insert_slice : (xs : List X) (i : ℕ) (ys : List X) → list_all p xs ≡ true → list_all p ys ≡ true → list_all p (insert_slice xs i ys) ≡ true
  all-insert_slice xs i ys all more = both (take i xs ++ ys) (drop i xs) (both (take i xs) ys (front i xs all) more) (back i xs all)

  pub all-remove_range : (xs : List X) (i j : ℕ) → list_all p xs ≡ true → list_all p (remove_range xs i j) ≡ true
  all-remove_range xs i j all = both (take i xs) (drop j xs) (front i xs all) (back j xs all)

-- items that grew where there was memory, and else stayed
pub grown-all : {X Y T E : Type 0} (f : X → Y) (p : Y → Bool) (result : Result T E) (xs ys grown : List X) (i : ℕ) → OnOk result (grown ≡ insert_slice xs i ys)
    → OnErr result (grown ≡ xs)
    → list_all p (map f xs) ≡ true → list_all p (map f ys) ≡ true → list_all p (map f grown) ≡ true
grown-all {X} f p (Ok done) xs ys grown i ok err all more =
    ap (λ (zs : List X). list_all p (map f zs)) ok ∙ ap (list_all p) (map-insert_slice f xs i ys) ∙ all-insert_slice p (map f xs) i (map f ys) all more
grown-all {X} f p (Err fault) xs ys grown i ok err all more = ap (λ (zs : List X). list_all p (map f zs)) err ∙ all
