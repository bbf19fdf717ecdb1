-- What is left of a list at a place.
use Rattle.std.proofs.Common.{◌≡◌, ℕ, suc, ◌+◌, ◌<◌, ◌≤◌, List, [], ◌∷◌, ◌++◌, Option, Some, None, length, drop, map, get_or, refl, sym, ap, ◌∙◌, add-one}
use Rattle.std.proofs.Math.Seq.{drop-cons}
use Rattle.std.proofs.Math.ListN.{drop_of_length-le}
use Rattle.std.specs.List.{cons_option, drop-map}
use Rattle.ace_to_owl.specs.Answers.{listed}

-- the same of an item that was read there
pub drop_read : {X Y : Type 0} (f : X → Y) (xs : List X) (k : ℕ) (x : X) → k < length xs → x ≡ get_or xs k x → drop k (map f xs) ≡ f x ∷ drop (k + 1) (map f xs)
drop_read f xs k x within is =
    drop-map f k xs
    ∙ ap (map f) (drop-cons xs k x within)
    ∙ ap (λ y. f y ∷ map f (drop (suc k) xs)) (sym is)
    ∙ ap (λ n. f x ∷ map f (drop n xs)) (sym (add-one k))
    ∙ ap (λ ys. f x ∷ ys) (sym (drop-map f (k + 1) xs))

-- an item that gives something joins what was given
pub cons_option-listed : {Y : Type 0} (o : Option Y) (ys : List Y) → cons_option o ys ≡ listed o ++ ys
cons_option-listed (Some y) ys = refl
cons_option-listed None ys = refl

-- past the end nothing is left
pub drop_past : {X Y : Type 0} (f : X → Y) (xs : List X) (k : ℕ) → length xs ≤ k → drop k (map f xs) ≡ []
drop_past f xs k past = drop-map f k xs ∙ ap (map f) (drop_of_length-le xs {i = k} past)
