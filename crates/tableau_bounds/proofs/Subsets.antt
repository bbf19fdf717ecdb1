-- How many things there can be where some of so many tests tell any two of them apart.
use Rattle.std.proofs.Common.{◌≡◌, ℕ, suc, ◌+◌, ◌*◌, ◌^◌, ◌≤◌, ◌&&◌, Bool, true, false, List, [], ◌∷◌, filter, length, cond, refl, sym, ap, ◌∙◌, arith, pow-suc}
use Rattle.std.specs.Prelude.{not}
use Rattle.std.specs.List.{list_any}
use Rattle.std.proofs.lemmas.Bool.{or_parts, not-true}
use Rattle.std.proofs.lemmas.Bool.{or_from}
use Rattle.std.proofs.lemmas.List.Filters.{length-filter_both}

-- both or neither
abbrev pub alike : Bool → Bool → Bool
alike true b = b
alike false b = not b

-- whether each test gives the same of two things
abbrev pub agree : {X C : Type 0} → (X → C → Bool) → List C → X → X → Bool
agree has [] x y = true
agree has (c ∷ cs) x y = alike (has x c) (has y c) && agree has cs x y

-- no two agree
abbrev pub Apart : {X C : Type 0} → (X → C → Bool) → List C → List X → Type 0
Apart has cs [] = Unit {0}
Apart has cs (x ∷ xs) = (list_any (agree has cs x) xs ≡ false) × Apart has cs xs

alike_self : (b : Bool) → alike b b ≡ true
alike_self true = refl
alike_self false = refl

double : (a b l p q : ℕ) → a ≤ p → b ≤ p → a + b ≡ l → q ≡ p * 2 → l ≤ q
double a b l p q low high sum twice = omega arith

module _ {X C : Type 0} (has : X → C → Bool) (c : C) (cs : List C) (p : X → Bool) (b : Bool) (kept : (x : X) → p x ≡ true → has x c ≡ b) where
  others : (x y : X) → has x c ≡ b → has y c ≡ b → agree has (c ∷ cs) x y ≡ false → agree has cs x y ≡ false
  others x y one two differ =
      let same : alike (has x c) (has y c) ≡ true = ap (λ z. alike z (has y c)) one ∙ (ap (alike b) two ∙ alike_self b) in
      sym (ap (λ z. z && agree has cs x y) same) ∙ differ

  none_agrees : (x : X) → has x c ≡ b → (xs : List X) → list_any (agree has (c ∷ cs) x) xs ≡ false → list_any (agree has cs x) (filter p xs) ≡ false
  none_agrees x one [] none = refl
  none_agrees x one (y ∷ ys) none =
      let parts = or_parts (agree has (c ∷ cs) x y) (list_any (agree has (c ∷ cs) x) ys) none in
      go (p y) refl parts.0 (none_agrees x one ys parts.1)
    where
      go : (d : Bool) → p y ≡ d → agree has (c ∷ cs) x y ≡ false → list_any (agree has cs x) (filter p ys) ≡ false
          → list_any (agree has cs x) (cond d (y ∷ filter p ys) (filter p ys)) ≡ false
      go true is differ rest = or_from (agree has cs x y) (list_any (agree has cs x) (filter p ys)) (others x y one (kept y is) differ) rest
      go false is differ rest = rest

  apart_kept : (xs : List X) → Apart has (c ∷ cs) xs → Apart has cs (filter p xs)
  apart_kept [] apart = tt
  apart_kept (x ∷ xs) apart = go (p x) refl (apart_kept xs apart.1)
    where
      go : (d : Bool) → p x ≡ d → Apart has cs (filter p xs) → Apart has cs (cond d (x ∷ filter p xs) (filter p xs))
      go true is rest = (none_agrees x (kept x is) xs apart.0, rest)
      go false is rest = rest

-- so many tests tell apart at most two to the power of their number
pub most_apart : {X C : Type 0} (has : X → C → Bool) (cs : List C) (xs : List X) → Apart has cs xs → length xs ≤ 2 ^ length cs
most_apart has [] [] apart = omega arith
most_apart has [] (x ∷ []) apart = omega arith
most_apart has [] (x ∷ (y ∷ ys)) apart = absurd (never apart.0)
  where
    never : true ≡ false → ⊥
    never e = cc
most_apart has (c ∷ cs) xs apart =
    double (length (filter (λ x. has x c) xs)) (length (filter (λ x. not (has x c)) xs)) (length xs) (2 ^ length cs) (2 ^ suc (length cs))
    (most_apart has cs (filter (λ x. has x c) xs) (apart_kept has c cs (λ x. has x c) true (λ x h. h) xs apart))
    (most_apart has cs (filter (λ x. not (has x c)) xs) (apart_kept has c cs (λ x. not (has x c)) false (λ x h. not-true (has x c) h) xs apart))
    (length-filter_both (λ x. has x c) (λ x. not (has x c)) (λ x. refl) xs)
    (pow-suc 2 (length cs))
