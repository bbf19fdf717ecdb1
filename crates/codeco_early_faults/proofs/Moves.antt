-- Lists with the same members in another order: what doesn't change where a member is moved is the same for both.
use Rattle.std.proofs.Common.{◌≡◌, ℕ, Bool, true, false, cond, ◌&&◌, ◌||◌, List, [], ◌∷◌, ◌++◌, map, refl, sym, ap, ◌∙◌, append_assoc, arith}
use Rattle.std.specs.List.{list_any, list_all, flat_map}
use Rattle.std.proofs.lemmas.List.{map-append}
use Rattle.std.proofs.lemmas.List.Concat.{flat_map-append}
use Rattle.std.proofs.lemmas.Bool.{and_parts}
use Rattle.wiki_base.proofs.BoolLaws.{and-swap as and_swap, or-swap as or_swap}

-- a member may be moved to the front
abbrev pub Movable : {X V : Type 0} → (List X → V) → Type 0
Movable {X} F = (xs ys : List X) (x : X) → F (xs ++ x ∷ ys) ≡ F (x ∷ (xs ++ ys))

pub record Same {X : Type 0} (xs ys : List X) : Type 0 where
  pub moved : (F : List X → ℕ) → Movable F → F xs ≡ F ys

pub same_refl : {X : Type 0} (xs : List X) → Same xs xs
same_refl xs = record { moved = λ F m. refl }

pub same_trans : {X : Type 0} {xs ys zs : List X} → Same xs ys → Same ys zs → Same xs zs
same_trans a b = record { moved = λ F m. a.moved F m ∙ b.moved F m }

pub same_sym : {X : Type 0} {xs ys : List X} → Same xs ys → Same ys xs
same_sym a = record { moved = λ F m. sym (a.moved F m) }

pub same_from : {X : Type 0} {xs ys : List X} → xs ≡ ys → Same xs ys
same_from e = record { moved = λ F m. ap F e }

pub same_put : {X : Type 0} (xs ys : List X) (x : X) → Same (xs ++ x ∷ ys) (x ∷ (xs ++ ys))
same_put xs ys x = record { moved = λ F m. m xs ys x }

pub same_append : {X : Type 0} {ps qs rs ss : List X} → Same ps qs → Same rs ss → Same (ps ++ rs) (qs ++ ss)
same_append {X} {ps} {qs} {rs} {ss} a c = record { moved = λ F m. a.moved (λ l. F (l ++ rs)) (left F m) ∙ c.moved (λ l. F (qs ++ l)) (right F m) }
  where
    left : (F : List X → ℕ) → Movable F → Movable (λ l. F (l ++ rs))
    left F m xs ys x = ap F (append_assoc xs (x ∷ ys) rs) ∙ m xs (ys ++ rs) x ∙ sym (ap (λ (l : List X). F (x ∷ l)) (append_assoc xs ys rs))

    right : (F : List X → ℕ) → Movable F → Movable (λ l. F (qs ++ l))
    right F m xs ys x = ap F (sym (append_assoc qs xs (x ∷ ys))) ∙ m (qs ++ xs) ys x ∙ ap (λ (l : List X). F (x ∷ l)) (append_assoc qs xs ys)
        ∙ sym (m qs (xs ++ ys) x)

pub same_cons : {X : Type 0} (x : X) {xs ys : List X} → Same xs ys → Same (x ∷ xs) (x ∷ ys)
same_cons x s = same_append (same_refl (x ∷ [])) s

pub same_map : {X Y : Type 0} (f : X → Y) {xs ys : List X} → Same xs ys → Same (map f xs) (map f ys)
same_map {X} {Y} f s = record { moved = λ F m. s.moved (λ l. F (map f l)) (mapped F m) }
  where
    mapped : (F : List Y → ℕ) → Movable F → Movable (λ l. F (map f l))
    mapped F m xs ys x = ap F (map-append f xs (x ∷ ys)) ∙ m (map f xs) (map f ys) (f x) ∙ sym (ap (λ (l : List Y). F (f x ∷ l)) (map-append f xs ys))

-- of members that pass a test
pub same_flat : {X Y : Type 0} (p : X → Bool) (f g : X → List Y) → ((x : X) → p x ≡ true → Same (f x) (g x)) → (xs : List X) → list_all p xs ≡ true
    → Same (flat_map f xs) (flat_map g xs)
same_flat p f g each [] h = same_refl []
same_flat p f g each (x ∷ xs) h =
    let parts = and_parts (p x) (list_all p xs) h in
    same_append (each x parts.0) (same_flat p f g each xs parts.1)

-- a test
abbrev pub bit : Bool → ℕ
bit b = cond b 1 0

bit_back : (a b : Bool) → bit a ≡ bit b → a ≡ b
bit_back true true h = refl
bit_back true false h = absurd (omega arith)
bit_back false true h = absurd (omega arith)
bit_back false false h = refl

pub same_test : {X : Type 0} {xs ys : List X} → Same xs ys → (F : List X → Bool) → Movable F → F xs ≡ F ys
same_test {X} {xs} {ys} s F m = bit_back (F xs) (F ys) (s.moved (λ l. bit (F l)) (λ ps qs x. ap bit (m ps qs x)))

-- What may be moved

pub any_move : {X : Type 0} (p : X → Bool) → Movable (list_any p)
any_move p [] ys x = refl
any_move p (z ∷ xs) ys x = ap (λ b. p z || b) (any_move p xs ys x) ∙ or_swap (p z) (p x) (list_any p (xs ++ ys))

-- a list moved to the front of another
pub same_block : {X : Type 0} (xs ys zs : List X) → Same (xs ++ (ys ++ zs)) (ys ++ (xs ++ zs))
same_block xs [] zs = same_refl (xs ++ zs)
same_block xs (y ∷ ys) zs = same_trans (same_put xs (ys ++ zs) y) (same_cons y (same_block xs ys zs))

pub same_parts : {X Y : Type 0} (f : X → List Y) {xs ys : List X} → Same xs ys → Same (flat_map f xs) (flat_map f ys)
same_parts {X} {Y} f s = record { moved = λ F m. s.moved (λ l. F (flat_map f l)) (parted F m) }
  where
    parted : (F : List Y → ℕ) → Movable F → Movable (λ l. F (flat_map f l))
    parted F m xs ys x =
        ap F (flat_map-append f xs (x ∷ ys)) ∙ (same_block (flat_map f xs) (f x) (flat_map f ys)).moved F m
        ∙ sym (ap (λ (l : List Y). F (f x ++ l)) (flat_map-append f xs ys))

pub all_move : {X : Type 0} (p : X → Bool) → Movable (list_all p)
all_move p [] ys x = refl
all_move p (z ∷ xs) ys x = ap (λ b. p z && b) (all_move p xs ys x) ∙ and_swap (p z) (p x) (list_all p (xs ++ ys))
