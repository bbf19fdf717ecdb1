-- What a loop over a list knows of a test of what its items stand for.
use Rattle.std.proofs.Common.{◌≡◌, ℕ, ◌+◌, ◌<◌, ◌≤◌, Bool, true, false, List, map, filter, length, take, get_or, cond, Some, slice_get, subst, refl, sym, ap, ◌∙◌}
use Rattle.std.specs.List.{list_any, list_all}
use Rattle.std.specs.Option.{option_map}
use Rattle.std.proofs.lemmas.Option.{slice_get-map, slice_get_read, slice_get_within, get_or_from_slice_get}
use Rattle.std.proofs.lemmas.List.{length-map, take_all}
use Rattle.std.proofs.lemmas.List.Filters.{length-filter_more}
use Rattle.logic_terms.proofs.Places.{each_more, each_fails, some_more, some_passes}

pub stands_at : {X Y : Type 0} (f : X → Y) (xs : List X) (i : ℕ) (x : X) → i < length xs → x ≡ get_or xs i x → slice_get (map f xs) i ≡ Some (f x)
stands_at f xs i x lt at = slice_get-map f xs i ∙ ap (option_map f) (slice_get_read xs (length xs) i x refl lt at)

module _ {X Y : Type 0} (f : X → Y) (test : Y → Bool) (xs : List X) (i : ℕ) (x : X) (lt : i < length xs) (at : x ≡ get_or xs i x) where
  pub map_passes : test (f x) ≡ true → list_any test (map f xs) ≡ true
  map_passes here = some_passes test (map f xs) i (f x) (stands_at f xs i x lt at) here

  pub map_some_more : list_any test (take i (map f xs)) ≡ false → test (f x) ≡ false → list_any test (take (i + 1) (map f xs)) ≡ false
  map_some_more passed here = some_more test (map f xs) i (f x) (stands_at f xs i x lt at) passed here

  pub map_fails : test (f x) ≡ false → list_all test (map f xs) ≡ false
  map_fails here = each_fails test (map f xs) i (f x) (stands_at f xs i x lt at) here

  pub map_each_more : list_all test (take i (map f xs)) ≡ true → test (f x) ≡ true → list_all test (take (i + 1) (map f xs)) ≡ true
  map_each_more passed here = each_more test (map f xs) i (f x) (stands_at f xs i x lt at) passed here

  pub map_count_more : (b : Bool) → test (f x) ≡ b → length (filter test (take (i + 1) (map f xs))) ≡ length (filter test (take i (map f xs))) + cond b 1 0
  map_count_more b here =
      let at_y : get_or (map f xs) i (f x) ≡ f x = get_or_from_slice_get (map f xs) i (f x) (f x) (stands_at f xs i x lt at) in
      length-filter_more test (map f xs) i (f x) (slice_get_within (map f xs) i (f x) (stands_at f xs i x lt at))
      ∙ ap (λ z. length (filter test (take i (map f xs))) + cond z 1 0) (ap test at_y ∙ here)

-- nothing is left
pub map_all : {X Y : Type 0} (f : X → Y) (xs : List X) (i : ℕ) → length xs ≤ i → take i (map f xs) ≡ map f xs
map_all f xs i past = take_all i (map f xs) (subst (λ n. n ≤ i) (sym (length-map xs f)) past)
