-- The members of lists that are put together.
use Rattle.std.proofs.Common.{◌≡◌, ℕ, zero, suc, ◌⊎◌, inl, inr, List, [], ◌∷◌, ◌++◌, Some, refl}
use Rattle.std.specs.List.{slice_get}
use Rattle.std.proofs.lemmas.Option.{same_Some}
use Rattle.chart_table.specs.Branches.{OneOf}

pub one_left : {X : Type 0} (x : X) (xs ys : List X) → OneOf xs x → OneOf (xs ++ ys) x
one_left x [] ys h = absurd h
one_left x (y ∷ xs) ys (inl e) = inl e
one_left x (y ∷ xs) ys (inr h) = inr (one_left x xs ys h)

pub one_right : {X : Type 0} (x : X) (xs ys : List X) → OneOf ys x → OneOf (xs ++ ys) x
one_right x [] ys h = h
one_right x (y ∷ xs) ys h = inr (one_right x xs ys h)

pub one_front : {X : Type 0} (xs : List X) (x y : X) → OneOf (xs ++ x ∷ []) y → OneOf xs y ⊎ (x ≡ y)
one_front [] x y (inl e) = inr e
one_front [] x y (inr h) = absurd h
one_front (z ∷ zs) x y (inl e) = inl (inl e)
one_front (z ∷ zs) x y (inr h) = elim (one_front zs x y h) [ inl a ↦ inl (inr a) | inr b ↦ inr b ]

pub one_last : {X : Type 0} (xs : List X) (x : X) → OneOf (xs ++ x ∷ []) x
one_last [] x = inl refl
one_last (z ∷ zs) x = inr (one_last zs x)

pub one_of_slice : {X : Type 0} (xs : List X) (i : ℕ) (x : X) → slice_get xs i ≡ Some x → OneOf xs x
one_of_slice [] i x h = absurd (cc)
one_of_slice (y ∷ ys) zero x h = inl (same_Some y x h)
one_of_slice (y ∷ ys) (suc i) x h = inr (one_of_slice ys i x h)
