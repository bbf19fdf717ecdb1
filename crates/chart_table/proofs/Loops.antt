-- One more turn of a loop over a list, where what is left decides.
use Rattle.std.proofs.Common.{◌≡◌, ℕ, ◌+◌, ◌<◌, ◌≤◌, List, [], ◌∷◌, ◌++◌, map, length, drop, take, get_or, sym, ap, ◌∙◌, arith}
use Rattle.std.specs.List.{range_with_len, flat_map}
use Rattle.std.proofs.lemmas.Grind.{flat_map-append}
use Rattle.codeco_terms.specs.declared.values.Value.TheVariants.{Pos}
use Rattle.derivation_trees.proofs.InstanceLemmas.{range_more}
use Rattle.std.proofs.lemmas.List.{drop_more, drop_all, map-append, take_more, append-nil}

pub turn : {A X R : Type 0} (F : A → List X → R) (a b : A) (xs : List X) (i : ℕ) (x : X) (r : R) → i < length xs → x ≡ get_or xs i x
    → F a (x ∷ drop (i + 1) xs) ≡ F b (drop (i + 1) xs) → F a (drop i xs) ≡ r → F b (drop (i + 1) xs) ≡ r
turn F a b xs i x r lt is step rest =
    sym step ∙ sym (ap (F a) (drop_more xs i x lt ∙ ap (λ y. y ∷ drop (i + 1) xs) (sym is))) ∙ rest

pub turned : {A X R : Type 0} (F : A → List X → R) (a : A) (xs : List X) (i : ℕ) (r : R) → length xs ≤ i → F a (drop i xs) ≡ r → F a [] ≡ r
turned F a xs i r le rest = ap (F a) (sym (drop_all i xs le)) ∙ rest

-- one more position
pub positions_more : (n : ℕ) → map Pos (range_with_len 0 (n + 1)) ≡ map Pos (range_with_len 0 n) ++ Pos n ∷ []
positions_more n =
    let same : 0 + n ≡ n = omega arith in
    ap (map Pos) (range_more 0 n) ∙ map-append Pos (range_with_len 0 n) ((0 + n) ∷ []) ∙ ap (λ k. map Pos (range_with_len 0 n) ++ Pos k ∷ []) same

-- one more item of a list that is gathered
pub flat_more : {X Y : Type 0} (f : X → List Y) (xs : List X) (i : ℕ) (x : X) (out new : List Y) → i < length xs → x ≡ get_or xs i x
    → out ≡ flat_map f (take i xs) → new ≡ out ++ f x → new ≡ flat_map f (take (i + 1) xs)
flat_more f xs i x out new lt is gathered more =
    more ∙ ap (λ o. o ++ f x) gathered ∙ sym
    (ap (flat_map f) (take_more xs i x lt ∙ ap (λ y. take i xs ++ y ∷ []) (sym is)) ∙ flat_map-append f (take i xs) (x ∷ [])
    ∙ ap (λ ys. flat_map f (take i xs) ++ ys) (append-nil (f x)))
