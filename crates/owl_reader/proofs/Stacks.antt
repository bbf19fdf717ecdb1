-- A list that is seen from its end.
use Rattle.std.proofs.Common.{◌≡◌, ℕ, ◌+◌, List, [], ◌∷◌, ◌++◌, map, length, take, Some, sym, ap, ◌∙◌, arith}
use Rattle.std.specs.Prelude.{reverse}
use Rattle.std.specs.List.{slice_get}
use Rattle.std.proofs.Math.Seq.{take-length}
use Rattle.std.proofs.lemmas.List.{map-append, reverse-append}
use Rattle.wiki_base.proofs.ListLaws.{take_slice_get}

module _ {X Y : Type 0} (f : X → Y) where
  pub pushed : (xs ys : List X) (x : X) → ys ≡ xs ++ x ∷ [] → reverse (map f ys) ≡ f x ∷ reverse (map f xs)
  pushed xs ys x is = ap (λ (zs : List X). reverse (map f zs)) is ∙ (ap reverse (map-append f xs (x ∷ [])) ∙ reverse-append (map f xs) (f x ∷ []))

  -- the last is seen first
  pub last_first : (xs : List X) (k : ℕ) (x : X) → slice_get xs k ≡ Some x → k + 1 ≡ length xs → reverse (map f xs) ≡ f x ∷ reverse (map f (take k xs))
  last_first xs k x at is =
      pushed (take k xs) xs x (sym (take-length xs) ∙ (ap (λ n. take n xs) (sym is) ∙ take_slice_get xs k x at))
