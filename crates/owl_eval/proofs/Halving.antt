-- What a search by halving says of a list in order.
use Rattle.std.proofs.Common.{◌≡◌, ℕ, Bool, false, List, length, get_or, Result, Ok, Err, IsSorted, sym, ap, ◌∙◌, inl, inr, arith}
use Rattle.std.specs.Prelude.{is_ok}
use Rattle.std.specs.declared.cmp.Ordering.{Ordering}
use Rattle.std.specs.Ordering.{is_eq}
use Rattle.std.specs.Cmp.{IsTotalOrder}
use Rattle.std.specs.List.{list_any}
use Rattle.std.specs.List.Sorted.{IsBinarySearchResult, IsSearchInRange}
use Rattle.std.proofs.lemmas.Bool.{cases_lt}
use Rattle.std.proofs.lemmas.List.Elements.{All-from_get_or}
use Rattle.std.proofs.lemmas.List.Folds.{list_any_none, list_any_at}
use Rattle.std.proofs.lemmas.List.Sorted.{searchable_from_sorted}

-- the search finds the item exactly where some item is equal to it
pub found : {K : Type 0} {R : K → K → Ordering} (total : IsTotalOrder R) (E : K → K → Bool) (same : (x y : K) → E x y ≡ is_eq (R x y)) (xs : List K) (x : K)
    → IsSorted R xs → (r : Result ℕ ℕ) → IsSearchInRange r (length xs) → IsBinarySearchResult (λ y. R y x) xs r → is_ok r ≡ list_any (λ y. E y x) xs
found {K} {R} total E same xs x up (Ok i) bound at =
    sym (list_any_at (λ y. E y x) xs i x bound (same (get_or xs i x) x ∙ ap is_eq (at x)))
found {K} {R} total E same xs x up (Err i) bound at =
    let parted = at (searchable_from_sorted total (λ y. y) xs x up) in
    sym (list_any_none (λ y. E y x) xs (All-from_get_or (λ y. E y x ≡ false) xs x (λ k lt.
    elim (cases_lt k i) [
      | inl below ↦ same (get_or xs k x) x ∙ ap is_eq (parted.0 k x (omega arith) below)
      | inr above ↦ same (get_or xs k x) x ∙ ap is_eq (parted.1 k x above lt)
    ])))
