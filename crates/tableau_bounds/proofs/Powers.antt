-- Powers and products, as the bounds need them.
use Rattle.std.proofs.Math.Nat.{pow-zero}
use Rattle.std.proofs.Common.{◌≡◌, ℕ, zero, suc, ◌+◌, ◌-◌, ◌*◌, ◌^◌, ◌<◌, ◌≤◌, sym, ap, ◌∙◌, subst, arith, pow-suc, suc-mul, mul-pos, mul-le-mul_right, mul-suc, mul_comm}

pub power_pos : (b n : ℕ) → 0 < b → 0 < b ^ n
power_pos b zero pos = omega (arith, pow-zero b)
power_pos b (suc n) pos = subst (λ z. 0 < z) (sym (pow-suc b n)) (mul-pos (power_pos b n pos) pos)

once_more : (p q b : ℕ) → 0 < b → p ≤ q → p ≤ q * b
once_more p q zero pos le = absurd (omega arith)
once_more p q (suc b) pos le = let all : q * suc b ≡ q * b + q = mul-suc q b in omega arith

power_more : (b n d : ℕ) → 0 < b → b ^ n ≤ b ^ (d + n)
power_more b n zero pos = subst (λ z. b ^ n ≤ b ^ z) (same n) (refl_le (b ^ n))
  where
    same : (n : ℕ) → n ≡ zero + n
    same n = omega arith

    refl_le : (x : ℕ) → x ≤ x
    refl_le x = omega arith
power_more b n (suc d) pos =
    subst (λ z. b ^ n ≤ b ^ z) (shift d n) (subst (λ z. b ^ n ≤ z) (sym (pow-suc b (d + n))) (once_more (b ^ n) (b ^ (d + n)) b pos (power_more b n d pos)))
  where
    shift : (d n : ℕ) → suc (d + n) ≡ suc d + n
    shift d n = omega arith

pub power_up : (b n m : ℕ) → 0 < b → n ≤ m → b ^ n ≤ b ^ m
power_up b n m pos le = subst (λ z. b ^ n ≤ b ^ z) (whole n m le) (power_more b n (m - n) pos)
  where
    whole : (n m : ℕ) → n ≤ m → (m - n) + n ≡ m
    whole n m le = omega arith

-- one share taken from several
pub one_share : (c n p : ℕ) → n < c → p + (c - (n + 1)) * p ≡ (c - n) * p
one_share c n p lt =
    sum p ((c - (n + 1)) * p) ∙ (sym (suc-mul (c - (n + 1)) p) ∙ ap (λ z. z * p) (one c n lt))
  where
    sum : (a b : ℕ) → a + b ≡ b + a
    sum a b = omega arith

    one : (c n : ℕ) → n < c → suc (c - (n + 1)) ≡ c - n
    one c n lt = omega arith

-- fewer shares than the base are less than the next power
pub fewer_shares : (c b p : ℕ) → c < b → 0 < p → c * p < p * b
fewer_shares c b p lt pos =
    let most : suc c * p ≤ b * p = mul-le-mul_right p lt in
    let more : suc c * p ≡ c * p + p = suc-mul c p in
    let turned : b * p ≡ p * b = mul_comm b p in
    less (c * p) p (suc c * p) (b * p) (p * b) pos most more turned
  where
    less : (x p y z w : ℕ) → 0 < p → y ≤ z → y ≡ x + p → z ≡ w → x < w
    less x p y z w pos most more turned = omega arith
