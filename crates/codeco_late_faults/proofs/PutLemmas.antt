-- A feature put among others, and the features of a pattern.
use Rattle.std.proofs.Common.{◌≡◌, ℕ, Bool, true, false, ◌||◌, eqb, ltb, List, [], ◌∷◌, map, refl, sym, ap, ◌∙◌}
use Rattle.std.specs.Prelude.{if◌then◌else◌}
use Rattle.std.specs.List.{list_any}
use Rattle.wiki_base.proofs.BoolLaws.{or-swap as or_swap, or-turn as or_turn}
use Rattle.wiki_base.proofs.NumberLaws.{eqb_comm}
use Rattle.codeco_terms.specs.declared.values.Term.{Term}
use Rattle.codeco_terms.specs.declared.values.Term.TheVariants.{Var}
use Rattle.codeco_checked.specs.Numbering.{has}
use Rattle.codeco_checked.specs.Occurrences.{put_feature, with_taken}
use Rattle.codeco_checked.specs.Faults.{is_double}
use Rattle.codeco_late_faults.specs.Order.{numbers, shares}
use Rattle.codeco_late_faults.proofs.DoubleLemmas.{double_cons}

put_any_at : (p : ℕ × Term → Bool) (b : Bool) (q y : ℕ × Term) (ys : List (ℕ × Term)) → list_any p (put_feature q ys) ≡ (p q || list_any p ys)
    → list_any p (if b then q ∷ y ∷ ys else y ∷ put_feature q ys) ≡ (p q || (p y || list_any p ys))
put_any_at p true q y ys h = refl
put_any_at p false q y ys h = ap (λ b. p y || b) h ∙ or_swap (p y) (p q) (list_any p ys)

-- a test passes for a feature that is put among others, or for one of these
pub put_any : (p : ℕ × Term → Bool) (q : ℕ × Term) (ys : List (ℕ × Term)) → list_any p (put_feature q ys) ≡ (p q || list_any p ys)
put_any p q [] = refl
put_any p q (y ∷ ys) = put_any_at p (ltb q.0 y.0) q y ys (put_any p q ys)

pub any_numbers : {X : Type 0} (p : ℕ → Bool) (xs : List (ℕ × X)) → list_any p (numbers xs) ≡ list_any (λ x. p x.0) xs
any_numbers p [] = refl
any_numbers p (x ∷ xs) = ap (λ b. p x.0 || b) (any_numbers p xs)

pub put_numbers : (p : ℕ → Bool) (q : ℕ × Term) (ys : List (ℕ × Term)) → list_any p (numbers (put_feature q ys)) ≡ (p q.0 || list_any p (numbers ys))
put_numbers p q ys = any_numbers p (put_feature q ys) ∙ put_any (λ x. p x.0) q ys ∙ ap (λ b. p q.0 || b) (sym (any_numbers p ys))

put_double_at : (b : Bool) (q y : ℕ × Term) (ys : List (ℕ × Term)) → is_double (numbers (put_feature q ys)) ≡ (has (numbers ys) q.0 || is_double (numbers ys))
    → is_double (numbers (if b then q ∷ y ∷ ys else y ∷ put_feature q ys)) ≡ (has (numbers (y ∷ ys)) q.0 || is_double (numbers (y ∷ ys)))
put_double_at true q y ys h = double_cons q.0 (numbers (y ∷ ys))
put_double_at false q y ys h =
    double_cons y.0 (numbers (put_feature q ys))
    ∙ ap (λ b. b || is_double (numbers (put_feature q ys))) (put_numbers (eqb y.0) q ys ∙ ap (λ b. b || has (numbers ys) y.0) (eqb_comm y.0 q.0))
    ∙ ap (λ b. (eqb q.0 y.0 || has (numbers ys) y.0) || b) h
    ∙ or_turn (eqb q.0 y.0) (has (numbers ys) y.0) (has (numbers ys) q.0) (is_double (numbers ys))
    ∙ ap (λ b. (eqb q.0 y.0 || has (numbers ys) q.0) || b) (sym (double_cons y.0 (numbers ys)))

put_double : (q : ℕ × Term) (ys : List (ℕ × Term)) → is_double (numbers (put_feature q ys)) ≡ (has (numbers ys) q.0 || is_double (numbers ys))
put_double q [] = refl
put_double q (y ∷ ys) = put_double_at (ltb q.0 y.0) q y ys (put_double q ys)

shares_cons : (xs : List ℕ) (y : ℕ) (ys : List ℕ) → shares xs (y ∷ ys) ≡ (has xs y || shares xs ys)
shares_cons [] y ys = refl
shares_cons (x ∷ xs) y ys = ap (λ b. (eqb x y || has ys x) || b) (shares_cons xs y ys) ∙ or_turn (eqb x y) (has ys x) (has xs y) (shares xs ys)
    ∙ ap (λ b. (b || has xs y) || (has ys x || shares xs ys)) (eqb_comm x y)

pub shares_none : (xs : List ℕ) → shares xs [] ≡ false
shares_none [] = refl
shares_none (x ∷ xs) = shares_none xs

or_all : (a b c d s : Bool) → (((a || b) || c) || (d || s)) ≡ ((b || (d || c)) || (a || s))
or_all true true c d s = refl
or_all true false c true s = refl
or_all true false true false s = refl
or_all true false false false s = refl
or_all false true c d s = refl
or_all false false true true s = refl
or_all false false true false s = refl
or_all false false false true s = refl
or_all false false false false s = refl

or_nothing : (a : Bool) → a ≡ ((a || false) || false)
or_nothing true = refl
or_nothing false = refl

-- a feature stands twice in a pattern where it does among the plain ones, among the marked ones, or once in each
pub taken_double : (feats : List (ℕ × Term)) (taken : List (ℕ × ℕ))
    → is_double (numbers (with_taken feats taken)) ≡ ((is_double (numbers feats) || is_double (numbers taken)) || shares (numbers feats) (numbers taken))
taken_double feats [] = or_nothing (is_double (numbers feats)) ∙ ap (λ b. (is_double (numbers feats) || false) || b) (sym (shares_none (numbers feats)))
taken_double feats (t ∷ ts) =
    let q : ℕ × Term = (t.0, Var t.1) in
    taken_double (put_feature q feats) ts
    ∙ ap (λ b. (b || is_double (numbers ts)) || shares (numbers (put_feature q feats)) (numbers ts)) (put_double q feats)
    ∙ ap (λ b. ((has (numbers feats) t.0 || is_double (numbers feats)) || is_double (numbers ts)) || b) (put_numbers (has (numbers ts)) q feats)
    ∙ or_all (has (numbers feats) t.0) (is_double (numbers feats)) (is_double (numbers ts)) (has (numbers ts) t.0) (shares (numbers feats) (numbers ts))
    ∙ ap (λ b. (is_double (numbers feats) || b) || (has (numbers feats) t.0 || shares (numbers feats) (numbers ts))) (sym (double_cons t.0 (numbers ts)))
    ∙ ap (λ b. (is_double (numbers feats) || is_double (numbers (t ∷ ts))) || b) (sym (shares_cons (numbers feats) t.0 (numbers ts)))

or_shift : (a b c : Bool) → ((a || b) || c) ≡ (b || (a || c))
or_shift true true c = refl
or_shift true false c = refl
or_shift false b c = refl

or_false : (a : Bool) → a ≡ (a || false)
or_false true = refl
or_false false = refl

-- a test passes for a feature of a pattern where it does for a plain or for a marked one
pub taken_any : (p : ℕ × Term → Bool) (feats : List (ℕ × Term)) (taken : List (ℕ × ℕ))
    → list_any p (with_taken feats taken) ≡ (list_any p feats || list_any p (map (λ t. (t.0, Var t.1)) taken))
taken_any p feats [] = or_false (list_any p feats)
taken_any p feats (t ∷ ts) =
    let q : ℕ × Term = (t.0, Var t.1) in
    taken_any p (put_feature q feats) ts ∙ ap (λ b. b || list_any p (map (λ u. (u.0, Var u.1)) ts)) (put_any p q feats)
    ∙ or_shift (p q) (list_any p feats) (list_any p (map (λ u. (u.0, Var u.1)) ts))
