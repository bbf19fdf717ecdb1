-- Sums of numbers below a bound, and how many classes of a list pass a test.
use Rattle.std.proofs.Common.{◌≡◌, ℕ, zero, suc, ◌+◌, ◌*◌, ◌<◌, ◌≤◌, Bool, true, false, List, [], ◌∷◌, ◌++◌, length, cond, refl, ap, ◌∙◌, subst, inl, inr, arith, suc-mul}
use Rattle.std.proofs.lemmas.Bool.{cases_eq, or_cases}
use Rattle.logic_terms.specs.Concept.{Concept}
use Rattle.logic_terms.specs.Same.{same_concept, has_concept}
use Rattle.logic_terms.proofs.SameLemmas.{same_concept-equal}

abbrev pub total : (ℕ → ℕ) → ℕ → ℕ
total f zero = 0
total f (suc n) = total f n + f n

pub total_le : (f g : ℕ → ℕ) (n : ℕ) → ((y : ℕ) → y < n → f y ≤ g y) → total f n ≤ total g n
total_le f g zero each = omega arith
total_le f g (suc n) each = sum (total f n) (f n) (total g n) (g n) (total_le f g n (λ y lt. each y (later y n lt))) (each n (here n))
  where
    sum : (a b c d : ℕ) → a ≤ c → b ≤ d → a + b ≤ c + d
    sum a b c d le up = omega arith

    later : (y n : ℕ) → y < n → y < suc n
    later y n lt = omega arith

    here : (n : ℕ) → n < suc n
    here n = omega arith

-- where one of them has so much more
pub total_more : (f g : ℕ → ℕ) (n x a : ℕ) → x < n → f x + a ≤ g x → ((y : ℕ) → y < n → f y ≤ g y) → total f n + a ≤ total g n
total_more f g zero x a lt more each = absurd (omega arith)
total_more f g (suc n) x a lt more each = elim (cases_eq x n) [
  | inl same ↦ last (total f n) (f n) (total g n) (g n) (total_le f g n (λ y below. each y (later y n below))) (subst (λ z. f z + a ≤ g z) same more)
  | inr other ↦ first (total f n) (f n) (total g n) (g n) (total_more f g n x a (before x n lt other) more (λ y below. each y (later y n below)))
      (each n (here n))
]
  where
    last : (t b u d : ℕ) → t ≤ u → b + a ≤ d → (t + b) + a ≤ u + d
    last t b u d le up = omega arith

    first : (t b u d : ℕ) → t + a ≤ u → b ≤ d → (t + b) + a ≤ u + d
    first t b u d le up = omega arith

    later : (y n : ℕ) → y < n → y < suc n
    later y n below = omega arith

    here : (n : ℕ) → n < suc n
    here n = omega arith

    before : (x n : ℕ) → x < suc n → (x ≡ n → ⊥) → x < n
    before x n lt other = grind (arith, other)

pub total_most : (f : ℕ → ℕ) (n c : ℕ) → ((y : ℕ) → y < n → f y ≤ c) → total f n ≤ n * c
total_most f zero c each = omega arith
total_most f (suc n) c each =
    sum (total f n) (f n) (n * c) c (suc n * c) (total_most f n c (λ y lt. each y (later y n lt))) (each n (here n)) (suc-mul n c)
  where
    sum : (a b p c q : ℕ) → a ≤ p → b ≤ c → q ≡ p + c → a + b ≤ q
    sum a b p c q le up is = omega arith

    later : (y n : ℕ) → y < n → y < suc n
    later y n lt = omega arith

    here : (n : ℕ) → n < suc n
    here n = omega arith

abbrev pub one_if : Bool → ℕ
one_if b = cond b 1 0

abbrev pub tally : (Concept → Bool) → List Concept → ℕ
tally p [] = 0
tally p (c ∷ cs) = one_if (p c) + tally p cs

one_le : (b : Bool) → one_if b ≤ 1
one_le true = omega arith
one_le false = omega arith

one_up : (a b : Bool) → (a ≡ true → b ≡ true) → one_if a ≤ one_if b
one_up true true up = omega arith
one_up true false up = let never : false ≡ true = up refl in cc
one_up false b up = omega arith

pub tally_most : (p : Concept → Bool) (cs : List Concept) → tally p cs ≤ length cs
tally_most p [] = omega arith
tally_most p (c ∷ cs) = sum (one_if (p c)) (tally p cs) (length cs) (one_le (p c)) (tally_most p cs)
  where
    sum : (a b n : ℕ) → a ≤ 1 → b ≤ n → a + b ≤ suc n
    sum a b n le up = omega arith

module _ (p q : Concept → Bool) (up : (c : Concept) → p c ≡ true → q c ≡ true) where
  pub tally_up : (cs more : List Concept) → tally p cs ≤ tally q (cs ++ more)
  tally_up [] more = omega arith
  tally_up (c ∷ cs) more = sum (one_if (p c)) (one_if (q c)) (tally p cs) (tally q (cs ++ more)) (one_up (p c) (q c) (up c)) (tally_up cs more)
    where
      sum : (a b x y : ℕ) → a ≤ b → x ≤ y → a + x ≤ b + y
      sum a b x y le all = omega arith

  -- one of them passes now
  pub tally_more : (cs more : List Concept) (d : Concept) → has_concept cs d ≡ true → p d ≡ false → q d ≡ true → tally p cs + 1 ≤ tally q (cs ++ more)
  tally_more [] more d h fails holds = cc
  tally_more (c ∷ cs) more d h fails holds = elim (or_cases (same_concept c d) (has_concept cs d) h) [
    | inl same ↦
        let is = same_concept-equal c d same in
        let before : one_if (p c) ≡ 0 = ap one_if (ap p is ∙ fails) in
        let after : one_if (q c) ≡ 1 = ap one_if (ap q is ∙ holds) in
        here (one_if (p c)) (one_if (q c)) (tally p cs) (tally q (cs ++ more)) before after (tally_up cs more)
    | inr later ↦ sum (one_if (p c)) (one_if (q c)) (tally p cs) (tally q (cs ++ more)) (one_up (p c) (q c) (up c)) (tally_more cs more d later fails holds)
  ]
    where
      here : (a b x y : ℕ) → a ≡ 0 → b ≡ 1 → x ≤ y → (a + x) + 1 ≤ b + y
      here a b x y before after le = omega arith

      sum : (a b x y : ℕ) → a ≤ b → x + 1 ≤ y → (a + x) + 1 ≤ b + y
      sum a b x y le all = omega arith
