-- The first number that gives something, one number further.
use Rattle.std.proofs.Common.{◌≡◌, ℕ, zero, suc, ◌+◌, ◌<◌, Bool, true, false, Option, Some, None, refl, sym, ap, ◌∙◌, inl, inr, arith, add-one}
use Rattle.std.specs.Option.{option_or}
use Rattle.std.proofs.lemmas.Bool.{cases_eq}
use Rattle.tableau_rules.specs.First.{first_below, where_true}

module _ {X : Type 0} (f : ℕ → Option X) (k : ℕ) (passed : first_below k f ≡ None) where
  pub first_more : f k ≡ None → first_below (k + 1) f ≡ None
  first_more here =
      ap (λ n. first_below n f) (add-one k) ∙ (ap (λ o. option_or o (f k)) passed ∙ here)

  pub first_found : (n : ℕ) (x : X) → k < n → f k ≡ Some x → first_below n f ≡ Some x
  first_found zero x lt here = absurd (omega arith)
  first_found (suc n) x lt here = elim (cases_eq k n) [
    | inl same ↦ ap (λ m. option_or (first_below m f) (f m)) (sym same) ∙ (ap (λ o. option_or o (f k)) passed ∙ here)
    | inr ne ↦ ap (λ o. option_or o (f n)) (first_found n x (omega arith) here)
  ]

pub first_none : {X : Type 0} (n : ℕ) (f : ℕ → Option X) → ((y : ℕ) → y < n → f y ≡ None) → first_below n f ≡ None
first_none zero f none = refl
first_none (suc n) f none =
    ap (λ o. option_or o (f n)) (first_none n f (λ y lt. none y (omega arith))) ∙ none n (omega arith)

pub where_is : {X : Type 0} (test : Bool) (x : X) → test ≡ true → where_true test x ≡ Some x
where_is test x is = ap (λ b. where_true b x) is

pub where_not : {X : Type 0} (test : Bool) (x : X) → test ≡ false → where_true test x ≡ None
where_not test x is = ap (λ b. where_true b x) is

pub where_parts : (t : Bool) (v y : ℕ) → where_true t v ≡ Some y → (t ≡ true) × (v ≡ y)
where_parts true v y h = (refl, one v y h)
  where
    one : (a b : ℕ) → Some a ≡ Some b → a ≡ b
    one a b e = cc
where_parts false v y h = cc

pub where_none : {X : Type 0} (test : Bool) (x : X) → where_true test x ≡ None → test ≡ false
where_none true x h = cc
where_none false x h = refl
