-- What a loop knows of a test at the places that it has passed.
use Rattle.std.proofs.Common.{◌≡◌, ℕ, zero, suc, ◌+◌, ◌<◌, Bool, true, false, List, get_or, take, Some, slice_get, sym, ap, ◌∙◌, inl, inr, arith}
use Rattle.std.specs.List.{list_any, list_all}
use Rattle.std.proofs.lemmas.Bool.{and_from, or_from, and_left, and_right, or_left, or_right, cases_eq}
use Rattle.std.proofs.lemmas.Option.{slice_get_within, get_or_from_slice_get}
use Rattle.std.proofs.lemmas.List.Folds.{list_all_more, list_any_more, list_all_at, list_any_at}
use Rattle.logic_terms.specs.Meaning.{some_below, each_below}

module _ {X : Type 0} (test : X → Bool) (xs : List X) (k : ℕ) (x : X) (at : slice_get xs k ≡ Some x) where
  pub each_more : list_all test (take k xs) ≡ true → test x ≡ true → list_all test (take (k + 1) xs) ≡ true
  each_more passed here =
      list_all_more test xs k x (slice_get_within xs k x at)
      ∙ and_from (list_all test (take k xs)) (test (get_or xs k x)) passed (ap test (get_or_from_slice_get xs k x x at) ∙ here)

  pub each_fails : test x ≡ false → list_all test xs ≡ false
  each_fails here =
      list_all_at test xs k x (slice_get_within xs k x at) (ap test (get_or_from_slice_get xs k x x at) ∙ here)

  pub some_more : list_any test (take k xs) ≡ false → test x ≡ false → list_any test (take (k + 1) xs) ≡ false
  some_more passed here =
      list_any_more test xs k x (slice_get_within xs k x at)
      ∙ or_from (list_any test (take k xs)) (test (get_or xs k x)) passed (ap test (get_or_from_slice_get xs k x x at) ∙ here)

  pub some_passes : test x ≡ true → list_any test xs ≡ true
  some_passes here =
      list_any_at test xs k x (slice_get_within xs k x at) (ap test (get_or_from_slice_get xs k x x at) ∙ here)

one_more : (k : ℕ) → suc k ≡ k + 1
one_more k = omega arith

module _ (test : ℕ → Bool) (k : ℕ) where
  pub each_below_more : each_below k test ≡ true → test k ≡ true → each_below (k + 1) test ≡ true
  each_below_more passed here =
      ap (λ n. each_below n test) (sym (one_more k)) ∙ and_from (test k) (each_below k test) here passed

  pub each_below_fails : (n : ℕ) → k < n → test k ≡ false → each_below n test ≡ false
  each_below_fails zero lt here = absurd (omega arith)
  each_below_fails (suc n) lt here = elim (cases_eq k n) [
    | inl same ↦ and_left (test n) (each_below n test) (ap test (sym same) ∙ here)
    | inr ne ↦ and_right (test n) (each_below n test) (each_below_fails n (omega arith) here)
  ]

module _ (test : ℕ → Bool) (k : ℕ) where
  pub some_below_more : some_below k test ≡ false → test k ≡ false → some_below (k + 1) test ≡ false
  some_below_more passed here =
      ap (λ n. some_below n test) (sym (one_more k)) ∙ or_from (test k) (some_below k test) here passed

  pub some_below_passes : (n : ℕ) → k < n → test k ≡ true → some_below n test ≡ true
  some_below_passes zero lt here = absurd (omega arith)
  some_below_passes (suc n) lt here = elim (cases_eq k n) [
    | inl same ↦ or_left (test n) (some_below n test) (ap test (sym same) ∙ here)
    | inr ne ↦ or_right (test n) (some_below n test) (some_below_passes n (omega arith) here)
  ]
