-- Lists that a loop makes item by item.
use Rattle.std.proofs.Common.{◌≡◌, ℕ, ◌+◌, Bool, true, false, List, ◌∷◌, Some, slice_get, drop, ap, ◌∙◌}
use Rattle.std.specs.Prelude.{cond}
use Rattle.std.specs.List.{filter}
use Rattle.wiki_base.proofs.ListLaws.{drop_slice_get}

-- what a test keeps, from the place of an item on
module _ {X : Type 0} (test : X → Bool) (xs : List X) (k : ℕ) (x : X) (at : slice_get xs k ≡ Some x) where
  pub filter_kept : test x ≡ true → filter test (drop k xs) ≡ x ∷ filter test (drop (k + 1) xs)
  filter_kept passes = ap (filter test) (drop_slice_get xs k x at) ∙ ap (λ b. cond b (x ∷ filter test (drop (k + 1) xs)) (filter test (drop (k + 1) xs))) passes

  pub filter_left : test x ≡ false → filter test (drop k xs) ≡ filter test (drop (k + 1) xs)
  filter_left fails = ap (filter test) (drop_slice_get xs k x at) ∙ ap (λ b. cond b (x ∷ filter test (drop (k + 1) xs)) (filter test (drop (k + 1) xs))) fails
