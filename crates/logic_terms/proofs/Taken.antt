-- What a loop over places has made of the items that it has passed.
use Rattle.std.proofs.Common.{◌≡◌, ℕ, ◌+◌, List, [], ◌∷◌, ◌++◌, Some, slice_get, take, map, sym, ap, ◌∙◌}
use Rattle.std.proofs.lemmas.Option.{slice_get_within, get_or_from_slice_get}
use Rattle.std.proofs.lemmas.List.{map_more}

-- one more item at the end of those made is what is made of one more place
pub made_more : {X Y : Type 0} (f : X → Y) (xs : List X) (k : ℕ) (x : X) (made : List Y) (y : Y) → slice_get xs k ≡ Some x → made ≡ map f (take k xs) → y ≡ f x
    → made ++ y ∷ [] ≡ map f (take (k + 1) xs)
made_more f xs k x made y at passed here =
    ap (λ ys. ys ++ y ∷ []) passed
    ∙ ap (λ z. map f (take k xs) ++ z ∷ []) (here ∙ ap f (sym (get_or_from_slice_get xs k x x at)))
    ∙ sym (map_more f xs k x (slice_get_within xs k x at))
