-- Laws on tests of numbers, which std has not.
use Rattle.std.proofs.Common.{◌≡◌, ℕ, ◌<◌, true, false, refl, sym, arith}
use Rattle.std.specs.Prelude.{◌==◌}
use Rattle.std.proofs.lemmas.Bool.{eq-eqb}
use Rattle.std.proofs.lemmas.Bool.Decides.{Decides-eqb, Decides-like, same_from_decides, nat_tests}

pub eqb_refl : (n : ℕ) → (n == n) ≡ true
eqb_refl n = eq-eqb n n refl

pub eqb_comm : (n m : ℕ) → (n == m) ≡ (m == n)
eqb_comm n m = same_from_decides (n == m) (m == n) (Decides-eqb n m) (Decides-like (m == n) (λ e. sym e) (λ e. sym e) (Decides-eqb m n))

-- a number is none above it
pub lt-eqb : (a b : ℕ) → a < b → (a == b) ≡ false
lt-eqb a b lt = grind (arith, nat_tests)
