-- What is left of a list decides: one item further, and at the end.
use Rattle.std.proofs.Common.{◌≡◌, ℕ, ◌+◌, ◌≤◌, List, [], ◌∷◌, length, drop, Some, slice_get, ap, ◌∙◌}
use Rattle.std.proofs.lemmas.List.{drop_all}
use Rattle.wiki_base.proofs.ListLaws.{drop_slice_get}

pub left_more : {X Y : Type 0} (F : List X → Y) (xs : List X) (k : ℕ) (x : X) → slice_get xs k ≡ Some x → F (drop k xs) ≡ F (x ∷ drop (k + 1) xs)
left_more F xs k x at = ap F (drop_slice_get xs k x at)

pub left_none : {X Y : Type 0} (F : List X → Y) (xs : List X) (k : ℕ) → length xs ≤ k → F (drop k xs) ≡ F []
left_none F xs k past = ap F (drop_all k xs past)
