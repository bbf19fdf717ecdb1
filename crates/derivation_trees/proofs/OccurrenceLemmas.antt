-- Tests over what stands in a rule, list by list.
use Rattle.std.proofs.Common.{◌≡◌, ℕ, ◌+◌, ◌<◌, List, [], ◌∷◌, ◌++◌, Bool, true, false, ◌||◌, ◌&&◌, map, refl, sym, ap, ◌∙◌, nat_lt}
use Rattle.std.specs.Prelude.{if◌then◌else◌, ◌==◌}
use Rattle.std.specs.List.{flat_map, list_all}
use Rattle.std.proofs.lemmas.Grind.{flat_map-append}
use Rattle.std.proofs.lemmas.List.Folds.{list_any-append, list_all-append}
use Rattle.std.proofs.Math.Bool.{or-false as or_false, and-true}
use Rattle.wiki_base.proofs.BoolLaws.{and-swap as and_swap, or-swap as or_swap}
use Rattle.codeco_terms.specs.declared.values.Term.{Term}
use Rattle.codeco_terms.specs.declared.values.Term.TheVariants.{Var}
use Rattle.codeco_checked.specs.Numbering.{has}
use Rattle.codeco_checked.specs.Occurrences.{put_feature, with_taken, term_variables}

-- std's law, under a name that an attribute can write
pub all_append : {X : Type 0} (p : X → Bool) (xs ys : List X) → list_all p (xs ++ ys) ≡ (list_all p xs && list_all p ys)
all_append p xs ys = list_all-append p xs ys

pub has_append : (xs ys : List ℕ) (x : ℕ) → has (xs ++ ys) x ≡ (has xs x || has ys x)
has_append xs ys x = list_any-append _ xs ys

-- the first item's numbers, or those of the others
pub has_flat_map_cons : {X : Type 0} (F : X → List ℕ) (y : X) (ys : List X) (x : ℕ) → has (flat_map F (y ∷ ys)) x ≡ (has (F y) x || has (flat_map F ys) x)
has_flat_map_cons F y ys x = has_append (F y) (flat_map F ys) x

pub has_flat_map_append : {X : Type 0} (F : X → List ℕ) (xs ys : List X) (x : ℕ)
    → has (flat_map F (xs ++ ys)) x ≡ (has (flat_map F xs) x || has (flat_map F ys) x)
has_flat_map_append F xs ys x = ap (λ zs. has zs x) (flat_map-append F xs ys) ∙ has_append (flat_map F xs) (flat_map F ys) x

feats_variables : List (ℕ × Term) → List ℕ
feats_variables feats = flat_map (λ f. term_variables f.1) feats

or_turn : (a b c : Bool) → (((a || false) || b) || c) ≡ (b || (a || c))
or_turn true true c = refl
or_turn true false c = refl
or_turn false true c = refl
or_turn false false c = refl

and_turn : (a b c : Bool) → ((a && b) && c) ≡ (b && (a && c))
and_turn true true c = refl
and_turn true false c = refl
and_turn false true c = refl
and_turn false false c = refl

put_feature_has_at : (b : Bool) (q y : ℕ × Term) (ys : List (ℕ × Term)) (x : ℕ)
    → has (flat_map (λ f. term_variables f.1) (put_feature q ys)) x ≡ (has (term_variables q.1) x || has (flat_map (λ f. term_variables f.1) ys) x)
    → has (flat_map (λ f. term_variables f.1) (if b then q ∷ y ∷ ys else y ∷ put_feature q ys)) x
    ≡ (has (term_variables q.1) x || has (flat_map (λ f. term_variables f.1) (y ∷ ys)) x)
put_feature_has_at true q y ys x h = has_flat_map_cons (λ (f : ℕ × Term). term_variables f.1) q (y ∷ ys) x
put_feature_has_at false q y ys x h =
    has_flat_map_cons (λ (f : ℕ × Term). term_variables f.1) y (put_feature q ys) x ∙ ap (λ b. has (term_variables y.1) x || b) h
    ∙ or_swap (has (term_variables y.1) x) (has (term_variables q.1) x) (has (flat_map (λ f. term_variables f.1) ys) x)
    ∙ ap (λ b. has (term_variables q.1) x || b) (sym (has_flat_map_cons (λ (f : ℕ × Term). term_variables f.1) y ys x))

put_feature_has : (q : ℕ × Term) (feats : List (ℕ × Term)) (x : ℕ)
    → has (flat_map (λ f. term_variables f.1) (put_feature q feats)) x ≡ (has (term_variables q.1) x || has (flat_map (λ f. term_variables f.1) feats) x)
put_feature_has q [] x = has_flat_map_cons (λ (f : ℕ × Term). term_variables f.1) q [] x
put_feature_has q (y ∷ ys) x = put_feature_has_at (nat_lt q.0 y.0) q y ys x (put_feature_has q ys x)

-- the variables of a pattern: those of its terms, and the marked ones
pub with_taken_has : (feats : List (ℕ × Term)) (taken : List (ℕ × ℕ)) (x : ℕ)
    → has (flat_map (λ f. term_variables f.1) (with_taken feats taken)) x ≡ (has (flat_map (λ f. term_variables f.1) feats) x || has (map (λ t. t.1) taken) x)
with_taken_has feats [] x = sym (or_false (has (flat_map (λ f. term_variables f.1) feats) x))
with_taken_has feats (t ∷ ts) x =
    with_taken_has (put_feature (t.0, Var t.1) feats) ts x ∙ ap (λ b. b || has (map (λ u. u.1) ts) x) (put_feature_has (t.0, Var t.1) feats x)
    ∙ or_turn (x == t.1) (has (flat_map (λ f. term_variables f.1) feats) x) (has (map (λ u. u.1) ts) x)

-- a test of each feature

pub all_flat_map_append : {X Y : Type 0} (p : Y → Bool) (F : X → List Y) (xs ys : List X)
    → list_all p (flat_map F (xs ++ ys)) ≡ (list_all p (flat_map F xs) && list_all p (flat_map F ys))
all_flat_map_append p F xs ys = ap (list_all p) (flat_map-append F xs ys) ∙ all_append p (flat_map F xs) (flat_map F ys)

put_feature_all_at : (p : ℕ × Term → Bool) (b : Bool) (q y : ℕ × Term) (ys : List (ℕ × Term)) → list_all p (put_feature q ys) ≡ (p q && list_all p ys)
    → list_all p (if b then q ∷ y ∷ ys else y ∷ put_feature q ys) ≡ (p q && (p y && list_all p ys))
put_feature_all_at p true q y ys h = refl
put_feature_all_at p false q y ys h = ap (λ b. p y && b) h ∙ and_swap (p y) (p q) (list_all p ys)

put_feature_all : (p : ℕ × Term → Bool) (q : ℕ × Term) (feats : List (ℕ × Term)) → list_all p (put_feature q feats) ≡ (p q && list_all p feats)
put_feature_all p q [] = refl
put_feature_all p q (y ∷ ys) = put_feature_all_at p (nat_lt q.0 y.0) q y ys (put_feature_all p q ys)

-- the features of a pattern all pass where those of its terms do and the marked ones
pub with_taken_all : (p : ℕ × Term → Bool) (feats : List (ℕ × Term)) (taken : List (ℕ × ℕ))
    → list_all p (with_taken feats taken) ≡ (list_all p feats && list_all (λ t. p (t.0, Var t.1)) taken)
with_taken_all p feats [] = sym (and-true (list_all p feats))
with_taken_all p feats (t ∷ ts) =
    with_taken_all p (put_feature (t.0, Var t.1) feats) ts ∙ ap (λ b. b && list_all (λ u. p (u.0, Var u.1)) ts) (put_feature_all p (t.0, Var t.1) feats)
    ∙ and_turn (p (t.0, Var t.1)) (list_all p feats) (list_all (λ u. p (u.0, Var u.1)) ts)
