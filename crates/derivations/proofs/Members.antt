-- Members of lists.
pub use Rattle.derivations.specs.Among.{Among}
use Rattle.std.proofs.Common.{◌≡◌, List, [], ◌∷◌, ◌++◌, map, Bool, true, ◌&&◌, ◌||◌, ◌⊎◌, inl, inr, ap, subst, ◌∙◌}
use Rattle.std.specs.List.{flat_map, list_all}
use Rattle.wiki_base.proofs.BoolLaws.{and_first, and_second}

pub among_left : {X : Type 0} (xs ys : List X) (x : X) → Among xs x → Among (xs ++ ys) x
among_left [] ys x h = absurd h
among_left (z ∷ zs) ys x (inl e) = inl e
among_left (z ∷ zs) ys x (inr h) = inr (among_left zs ys x h)

pub among_right : {X : Type 0} (xs ys : List X) (x : X) → Among ys x → Among (xs ++ ys) x
among_right [] ys x h = h
among_right (z ∷ zs) ys x h = inr (among_right zs ys x h)

pub among_map : {X Y : Type 0} (f : X → Y) (xs : List X) (x : X) → Among xs x → Among (map f xs) (f x)
among_map f [] x h = absurd h
among_map f (z ∷ zs) x (inl e) = inl (ap f e)
among_map f (z ∷ zs) x (inr h) = inr (among_map f zs x h)

pub among_flat_map : {X Y : Type 0} (f : X → List Y) (xs : List X) (x : X) (y : Y) → Among xs x → Among (f x) y → Among (flat_map f xs) y
among_flat_map f [] x y h k = absurd h
among_flat_map f (z ∷ zs) x y (inl e) k = among_left (f z) (flat_map f zs) y (subst (λ w. Among (f w) y) e k)
among_flat_map f (z ∷ zs) x y (inr h) k = among_right (f z) (flat_map f zs) y (among_flat_map f zs x y h k)

-- a test that all pass is passed by each
pub all_among : {X : Type 0} (p : X → Bool) (xs : List X) (x : X) → list_all p xs ≡ true → Among xs x → p x ≡ true
all_among p [] x h k = absurd k
all_among p (z ∷ zs) x h (inl e) = ap p e ∙ and_first (p z) (list_all p zs) h
all_among p (z ∷ zs) x h (inr k) = all_among p zs x (and_second (p z) (list_all p zs) h) k
