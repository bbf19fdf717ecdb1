-- Numbers put among numbers in order.
use Rattle.std.proofs.Common.{◌≡◌, ℕ, ◌+◌, ◌<◌, List, [], ◌∷◌, ◌++◌, Bool, true, false, map, length, get_or, drop, refl, sym, ap, ◌∙◌, arith, nat_lt}
use Rattle.std.specs.Prelude.{if◌then◌else◌}
use Rattle.std.proofs.lemmas.List.{drop_more}
use Rattle.std.specs.List.{flat_map}
use Rattle.std.proofs.lemmas.Bool.Decides.{nat_tests}
use Rattle.std.proofs.lemmas.Grind.{flat_map-append}
use Rattle.codeco_terms.specs.declared.values.Term.{Term}
use Rattle.codeco_terms.specs.declared.values.Term.TheVariants.{Var}
use Rattle.codeco_terms.specs.declared.categories.Category.{Category}
use Rattle.codeco_checked.specs.Occurrences.{put_feature, with_taken}
use Rattle.derivation_trees.specs.Putting.{put, put_all, features_in}

put_comm_step : (x y z : ℕ) (zs : List ℕ) → put x (put y zs) ≡ put y (put x zs) → put x (put y (z ∷ zs)) ≡ put y (put x (z ∷ zs))
put_comm_step x y z zs h = grind (arith, nat_tests)

put_comm_none : (x y : ℕ) → put x (put y []) ≡ put y (put x [])
put_comm_none x y = grind (arith, nat_tests)

pub put_comm : (x y : ℕ) (zs : List ℕ) → put x (put y zs) ≡ put y (put x zs)
put_comm x y [] = put_comm_none x y
put_comm x y (z ∷ zs) = put_comm_step x y z zs (put_comm x y zs)

pub put_all_append : (sorted xs ys : List ℕ) → put_all sorted (xs ++ ys) ≡ put_all (put_all sorted xs) ys
put_all_append sorted [] ys = refl
put_all_append sorted (x ∷ xs) ys = put_all_append (put x sorted) xs ys

pub put_all_put : (x : ℕ) (sorted xs : List ℕ) → put_all (put x sorted) xs ≡ put x (put_all sorted xs)
put_all_put x sorted [] = refl
put_all_put x sorted (y ∷ ys) =
    ap (λ zs. put_all zs ys) (put_comm y x sorted) ∙ put_all_put x (put y sorted) ys

-- the features of categories, one list after another
pub put_all_features : (name : ℕ) (sorted : List ℕ) (xs ys : List Category)
    → put_all sorted (flat_map (features_in name) (xs ++ ys)) ≡ put_all (put_all sorted (flat_map (features_in name) xs)) (flat_map (features_in name) ys)
put_all_features name sorted xs ys =
    ap (put_all sorted) (flat_map-append (features_in name) xs ys) ∙ put_all_append sorted (flat_map (features_in name) xs) (flat_map (features_in name) ys)

-- the two places at which a feature may be put before or after another
put_feature_at : (sorted : List ℕ) (q y : ℕ × Term) (ys : List (ℕ × Term)) (b : Bool)
    → put_all (put y.0 sorted) (map (λ f. f.0) (put_feature q ys)) ≡ put q.0 (put_all (put y.0 sorted) (map (λ f. f.0) ys))
    → put_all sorted (map (λ f. f.0) (if b then q ∷ y ∷ ys else y ∷ put_feature q ys)) ≡ put q.0 (put_all (put y.0 sorted) (map (λ f. f.0) ys))
put_feature_at sorted q y ys true h =
    ap (λ zs. put_all zs (map (λ f. f.0) ys)) (put_comm y.0 q.0 sorted) ∙ put_all_put q.0 (put y.0 sorted) (map (λ f. f.0) ys)
put_feature_at sorted q y ys false h = h

put_all_put_feature : (sorted : List ℕ) (q : ℕ × Term) (feats : List (ℕ × Term))
    → put_all sorted (map (λ f. f.0) (put_feature q feats)) ≡ put q.0 (put_all sorted (map (λ f. f.0) feats))
put_all_put_feature sorted q [] = refl
put_all_put_feature sorted q (y ∷ ys) =
    put_feature_at sorted q y ys (nat_lt q.0 y.0) (put_all_put_feature (put y.0 sorted) q ys)

-- the features of a pattern, the marked ones after the others
pub put_all_taken : (sorted : List ℕ) (feats : List (ℕ × Term)) (taken : List (ℕ × ℕ))
    → put_all sorted (map (λ f. f.0) (with_taken feats taken)) ≡ put_all (put_all sorted (map (λ f. f.0) feats)) (map (λ t. t.0) taken)
put_all_taken sorted feats [] = refl
put_all_taken sorted feats (t ∷ ts) =
    put_all_taken sorted (put_feature (t.0, Var t.1) feats) ts ∙ ap (λ zs. put_all zs (map (λ u. u.0) ts)) (put_all_put_feature sorted (t.0, Var t.1) feats)

-- one step of a loop that puts what each item gives
pub put_step : {X : Type 0} (F : X → List ℕ) (G : List X → List ℕ) → ((x : X) (ys : List X) → G (x ∷ ys) ≡ F x ++ G ys)
    → (xs : List X) (i : ℕ) (x : X) (old new start : List ℕ) → i < length xs → x ≡ get_or xs i x → new ≡ put_all old (F x) → put_all old (G (drop i xs)) ≡ start
    → put_all new (G (drop (i + 1) xs)) ≡ start
put_step {X} F G cons xs i x old new start lt is step sofar =
    let rest : drop i xs ≡ x ∷ drop (i + 1) xs = drop_more xs i x lt ∙ ap (λ y. y ∷ drop (i + 1) xs) (sym is) in
    ap (λ zs. put_all zs (G (drop (i + 1) xs))) step ∙ sym (put_all_append old (F x) (G (drop (i + 1) xs))) ∙ ap (put_all old) (sym (cons x (drop (i + 1) xs)))
    ∙ ap (λ zs. put_all old (G zs)) (sym rest) ∙ sofar
