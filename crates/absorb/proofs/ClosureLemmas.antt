-- Chains of steps.
use Rattle.std.proofs.Common.{◌≡◌, ℕ, zero, suc, refl, sym, subst, inl, inr}
use Rattle.std.specs.Prelude.{◌⊎◌}
use Rattle.absorb.specs.Closure.{Chain, Reaches}

module _ {A : Type 0} (step : A → A → Type 0) where
  pub itself : (x : A) → Reaches step x x
  itself x = (0, refl)

  pub at_once : (x y : A) → step x y → Reaches step x y
  at_once x y h = (1, (x, refl, h))

  pub onward : (x y z : A) → Reaches step x y → step y z → Reaches step x z
  onward x y z r h = (suc r.0, (y, r.1, h))

  join_chain : (n : ℕ) (x y z : A) → Reaches step x y → Chain step n y z → Reaches step x z
  join_chain zero x y z r e = subst (λ w. Reaches step x w) e r
  join_chain (suc n) x y z r (w, c, h) = onward x w z (join_chain n x y w r c) h

  pub join : (x y z : A) → Reaches step x y → Reaches step y z → Reaches step x z
  join x y z r s = join_chain s.0 x y z r s.1

  back_chain : ((x y : A) → step x y → step y x) → (n : ℕ) (x y : A) → Chain step n x y → Reaches step y x
  back_chain turn zero x y e = (0, sym e)
  back_chain turn (suc n) x z (y, c, h) = join z y x (at_once z y (turn y z h)) (back_chain turn n x y c)

  pub back : ((x y : A) → step x y → step y x) → (x y : A) → Reaches step x y → Reaches step y x
  back turn x y r = back_chain turn r.0 x y r.1

  kept_chain : (P : A → A → Type 0) → ((x : A) → P x x) → ((x y z : A) → P x y → step y z → P x z) → (n : ℕ) (x y : A) → Chain step n x y → P x y
  kept_chain P none more zero x y e = subst (P x) e (none x)
  kept_chain P none more (suc n) x z (y, c, h) = more x y z (kept_chain P none more n x y c) h

  -- what holds of no step and goes on along a step holds along a chain
  pub kept : (P : A → A → Type 0) → ((x : A) → P x x) → ((x y z : A) → P x y → step y z → P x z) → (x y : A) → Reaches step x y → P x y
  kept P none more x y r = kept_chain P none more r.0 x y r.1

-- a chain of steps of which each is one of another kind, or leads from a to b
one_more_chain : {A : Type 0} (step step' : A → A → Type 0) (a b : A) → ((x y : A) → step' x y → step x y ⊎ ((x ≡ a) × (y ≡ b))) → (n : ℕ) (x y : A)
    → Chain step' n x y → Reaches step x y ⊎ (Reaches step x a × Reaches step b y)
one_more_chain step step' a b cases zero x y e = inl (0, e)
one_more_chain step step' a b cases (suc n) x z (y, c, h) = elim (cases y z h) [
  | inl old ↦ elim (one_more_chain step step' a b cases n x y c) [
    | inl r ↦ inl (onward step x y z r old)
    | inr both ↦ inr (both.0, onward step b y z both.1 old)
  ]
  | inr new ↦ elim (one_more_chain step step' a b cases n x y c) [
    | inl r ↦ inr (subst (λ w. Reaches step x w) new.0 r, (0, sym new.1))
    | inr both ↦ inr (both.0, (0, sym new.1))
  ]
]

pub one_more : {A : Type 0} (step step' : A → A → Type 0) (a b : A) → ((x y : A) → step' x y → step x y ⊎ ((x ≡ a) × (y ≡ b))) → (x y : A) → Reaches step' x y
    → Reaches step x y ⊎ (Reaches step x a × Reaches step b y)
one_more step step' a b cases x y r = one_more_chain step step' a b cases r.0 x y r.1

more_chain : {A : Type 0} (step step' : A → A → Type 0) → ((x y : A) → step x y → step' x y) → (n : ℕ) (x y : A) → Chain step n x y → Chain step' n x y
more_chain step step' more zero x y e = e
more_chain step step' more (suc n) x z (y, c, h) = (y, more_chain step step' more n x y c, more y z h)

pub more : {A : Type 0} (step step' : A → A → Type 0) → ((x y : A) → step x y → step' x y) → (x y : A) → Reaches step x y → Reaches step' x y
more step step' wider x y r = (r.0, more_chain step step' wider r.0 x y r.1)
