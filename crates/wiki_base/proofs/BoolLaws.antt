-- Laws on truth values, which std has not.
use Rattle.std.proofs.Common.{◌≡◌, ◌&&◌, ◌||◌, Bool, true, false, not, refl, sym}

-- both sides of a test that holds
pub and_first : (a b : Bool) → (a && b) ≡ true → a ≡ true
and_first true b h = refl
and_first false b h = h

pub and_second : (a b : Bool) → (a && b) ≡ true → b ≡ true
and_second true b h = h
and_second false b h = cc

-- two tests are the same where each holds where the other does
pub same_tests : (a b : Bool) → (a ≡ true → b ≡ true) → (b ≡ true → a ≡ true) → a ≡ b
same_tests true b to from = sym (to refl)
same_tests false true to from = from refl
same_tests false false to from = refl

-- no test holds and fails
pub not_both : {b : Bool} → b ≡ true → b ≡ false → ⊥
not_both t f = cc

-- what holds where another fails, by the other's complement
pub and-not : (a b : Bool) → (a && not b) ≡ not (not a || b)
and-not true b = refl
and-not false b = refl

-- the first two of three change places
pub or-swap : (a b c : Bool) → (a || (b || c)) ≡ (b || (a || c))
or-swap true true c = refl
or-swap true false c = refl
or-swap false b c = refl

pub and-swap : (a b c : Bool) → (a && (b && c)) ≡ (b && (a && c))
and-swap true b c = refl
and-swap false true c = refl
and-swap false false c = refl

-- the inner two of four change places
pub or-turn : (a b c d : Bool) → ((a || b) || (c || d)) ≡ ((a || c) || (b || d))
or-turn true b c d = refl
or-turn false true true d = refl
or-turn false true false d = refl
or-turn false false c d = refl
