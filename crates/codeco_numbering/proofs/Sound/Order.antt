-- Features in order of number, with the marked ones among the others.
use Rattle.std.proofs.Common.{◌≡◌, ℕ, ◌≤◌, Bool, true, not, ◌&&◌, ◌||◌, ltb, leb, List, [], ◌∷◌, ◌++◌, map, refl, sym, ap, ◌∙◌, arith, inl, inr}
use Rattle.std.specs.List.{list_all, flat_map}
use Rattle.std.proofs.lemmas.List.{map-append}
use Rattle.std.proofs.lemmas.Bool.{and_parts, and_from, cases_Bool, ltb-true, ltb-false, leb-true, le-ltb, le-leb, cond-true, cond-false}
use Rattle.std.proofs.lemmas.List.Folds.{list_all-map as all-map}
use Rattle.codeco_terms.specs.declared.values.Value.TheVariants.{Atom}
use Rattle.codeco_terms.specs.declared.values.Term.{Term}
use Rattle.codeco_terms.specs.declared.values.Term.TheVariants.{Val, Var}
use Rattle.codeco_text.specs.declared.written.WrittenTerm.{WrittenTerm}
use Rattle.codeco_text.specs.declared.written.WrittenTerm.TheVariants as term
use Rattle.codeco_text.specs.declared.written.WrittenCategory.{WrittenCategory}
use Rattle.codeco_text.specs.Notation.{is_marked, is_plain}
use Rattle.codeco_checked.specs.Occurrences.{put_feature, with_taken, term_variables}
use Rattle.codeco_numbering.specs.Numbered.{number_of, put_in_order, in_order, ordered, term_names, Tables, numbered_term, plain_feats, taken_feats}

-- each number is at least the one before it, the first at least n
abbrev pub rises : ℕ → List (ℕ × WrittenTerm) → Bool
rises n [] = true
rises n (x ∷ xs) = leb n x.0 && rises x.0 xs

put_rises : (n : ℕ) (x : ℕ × WrittenTerm) (ys : List (ℕ × WrittenTerm)) → n ≤ x.0 → rises n ys ≡ true → rises n (put_in_order x ys) ≡ true
put_rises n x [] le h = and_from (leb n x.0) true (le-leb n x.0 le) refl
put_rises n x (y ∷ ys) le h =
    let parts = and_parts (leb n y.0) (rises y.0 ys) h in
    elim (cases_Bool (ltb y.0 x.0)) [
      | inl low ↦
          let lt = ltb-true y.0 x.0 low in
          ap (rises n) (cond-true (ltb y.0 x.0) (y ∷ put_in_order x ys) (x ∷ y ∷ ys) low)
          ∙ and_from (leb n y.0) (rises y.0 (put_in_order x ys)) parts.0 (put_rises y.0 x ys (omega arith) parts.1)
      | inr high ↦
          ap (rises n) (cond-false (ltb y.0 x.0) (y ∷ put_in_order x ys) (x ∷ y ∷ ys) high)
          ∙ and_from (leb n x.0) (rises x.0 (y ∷ ys)) (le-leb n x.0 le)
          (and_from (leb x.0 y.0) (rises y.0 ys) (le-leb x.0 y.0 (ltb-false y.0 x.0 high)) parts.1)
    ]

-- features that are put in order stand in order of number
pub order_rises : (xs : List (ℕ × WrittenTerm)) → rises 0 (in_order xs) ≡ true
order_rises [] = refl
order_rises (x ∷ xs) = put_rises 0 x (in_order xs) (omega arith) (order_rises xs)

put_keeps : (p : ℕ × WrittenTerm → Bool) (x : ℕ × WrittenTerm) (ys : List (ℕ × WrittenTerm)) → p x ≡ true → list_all p ys ≡ true
    → list_all p (put_in_order x ys) ≡ true
put_keeps p x [] h k = and_from (p x) true h refl
put_keeps p x (y ∷ ys) h k =
    let parts = and_parts (p y) (list_all p ys) k in
    elim (cases_Bool (ltb y.0 x.0)) [
      | inl low ↦ ap (list_all p) (cond-true (ltb y.0 x.0) (y ∷ put_in_order x ys) (x ∷ y ∷ ys) low)
          ∙ and_from (p y) (list_all p (put_in_order x ys)) parts.0 (put_keeps p x ys h parts.1)
      | inr high ↦ ap (list_all p) (cond-false (ltb y.0 x.0) (y ∷ put_in_order x ys) (x ∷ y ∷ ys) high) ∙ and_from (p x) (list_all p (y ∷ ys)) h k
    ]

-- what holds of each feature holds of them in order
pub order_keeps : (p : ℕ × WrittenTerm → Bool) (xs : List (ℕ × WrittenTerm)) → list_all p xs ≡ true → list_all p (in_order xs) ≡ true
order_keeps p [] h = refl
order_keeps p (x ∷ xs) h =
    let parts = and_parts (p x) (list_all p xs) h in
    put_keeps p x (in_order xs) parts.0 (order_keeps p xs parts.1)

-- the features of a category without marked variables are unmarked
pub ordered_plain : (features : List (List ℕ)) (c : WrittenCategory) → is_plain c ≡ true → list_all (λ f. not (is_marked f.1)) (ordered features c) ≡ true
ordered_plain features c h =
    let unmarked : ℕ × WrittenTerm → Bool = λ f. not (is_marked f.1) in
    order_keeps unmarked (map (λ f. (number_of features f.name, f.term)) c.feats) (all-map unmarked (λ f. (number_of features f.name, f.term)) c.feats ∙ h)

-- Features with their terms, marked or not

abbrev pub every_feat : Tables → List (ℕ × WrittenTerm) → List (ℕ × Term)
every_feat t fs = map (λ f. (f.0, numbered_term t f.1)) fs

pub plain_every : (t : Tables) (fs : List (ℕ × WrittenTerm)) → list_all (λ f. not (is_marked f.1)) fs ≡ true → plain_feats t fs ≡ every_feat t fs
plain_every t [] h = refl
plain_every t ((n, term.Atom w) ∷ fs) h = ap (λ (x : List (ℕ × Term)). (n, numbered_term t (term.Atom w)) ∷ x) (plain_every t fs h)
plain_every t ((n, term.Variable w) ∷ fs) h = ap (λ (x : List (ℕ × Term)). (n, numbered_term t (term.Variable w)) ∷ x) (plain_every t fs h)
plain_every t ((n, term.Taken w) ∷ fs) h = absurd cc

-- a feature that isn't above the marked ones stays the first
with_first : (x : ℕ × Term) (fs : List (ℕ × Term)) (ts : List (ℕ × ℕ)) → list_all (λ u. leb x.0 u.0) ts ≡ true → with_taken (x ∷ fs) ts ≡ x ∷ with_taken fs ts
with_first x fs [] h = refl
with_first x fs (u ∷ us) h =
    let parts = and_parts (leb x.0 u.0) (list_all (λ v. leb x.0 v.0) us) h in
    let it : ℕ × Term = (u.0, Var u.1) in
    ap (λ (ys : List (ℕ × Term)). with_taken ys us) (cond-false (ltb u.0 x.0) (it ∷ x ∷ fs) (x ∷ put_feature it fs) (le-ltb u.0 x.0 (leb-true x.0 u.0 parts.0)))
    ∙ with_first x (put_feature it fs) us parts.1

put_first : (x : ℕ × Term) (fs : List (ℕ × Term)) → list_all (λ f. ltb x.0 f.0) fs ≡ true → put_feature x fs ≡ x ∷ fs
put_first x [] h = refl
put_first x (f ∷ fs) h = cond-true (ltb x.0 f.0) (x ∷ f ∷ fs) (f ∷ put_feature x fs) (and_parts (ltb x.0 f.0) (list_all (λ y. ltb x.0 y.0) fs) h).0

-- a marked feature stands before no unmarked one of its number
abbrev pub goes_before : ℕ × WrittenTerm → ℕ × WrittenTerm → Bool
goes_before x y = not (is_marked x.1) || (is_marked y.1 || ltb x.0 y.0)

abbrev pub stands : List (ℕ × WrittenTerm) → Bool
stands [] = true
stands (x ∷ xs) = list_all (goes_before x) xs && stands xs

takes_from : (t : Tables) (m n : ℕ) (fs : List (ℕ × WrittenTerm)) → m ≤ n → rises n fs ≡ true → list_all (λ u. leb m u.0) (taken_feats t fs) ≡ true
takes_from t m n [] le h = refl
takes_from t m n ((k, term.Atom w) ∷ fs) le h =
    let parts = and_parts (leb n k) (rises k fs) h in
    let here = leb-true n k parts.0 in
    takes_from t m k fs (omega arith) parts.1
takes_from t m n ((k, term.Variable w) ∷ fs) le h =
    let parts = and_parts (leb n k) (rises k fs) h in
    let here = leb-true n k parts.0 in
    takes_from t m k fs (omega arith) parts.1
takes_from t m n ((k, term.Taken w) ∷ fs) le h =
    let parts = and_parts (leb n k) (rises k fs) h in
    let here = leb-true n k parts.0 in
    and_from (leb m k) (list_all (λ u. leb m u.0) (taken_feats t fs)) (le-leb m k (omega arith)) (takes_from t m k fs (omega arith) parts.1)

plain_above : (t : Tables) (k : ℕ) (w : List ℕ) (fs : List (ℕ × WrittenTerm)) → list_all (goes_before (k, term.Taken w)) fs ≡ true
    → list_all (λ f. ltb k f.0) (plain_feats t fs) ≡ true
plain_above t k w [] h = refl
plain_above t k w ((n, term.Atom v) ∷ fs) h =
    let parts = and_parts (ltb k n) (list_all (goes_before (k, term.Taken w)) fs) h in
    and_from (ltb k n) (list_all (λ f. ltb k f.0) (plain_feats t fs)) parts.0 (plain_above t k w fs parts.1)
plain_above t k w ((n, term.Variable v) ∷ fs) h =
    let parts = and_parts (ltb k n) (list_all (goes_before (k, term.Taken w)) fs) h in
    and_from (ltb k n) (list_all (λ f. ltb k f.0) (plain_feats t fs)) parts.0 (plain_above t k w fs parts.1)
plain_above t k w ((n, term.Taken v) ∷ fs) h = plain_above t k w fs h

-- the marked features put among the others are the features as they are ordered
pub whole_every : (t : Tables) (n : ℕ) (fs : List (ℕ × WrittenTerm)) → rises n fs ≡ true → stands fs ≡ true
    → with_taken (plain_feats t fs) (taken_feats t fs) ≡ every_feat t fs
whole_every t n [] h s = refl
whole_every t n ((k, term.Atom w) ∷ fs) h s =
    let parts = and_parts (leb n k) (rises k fs) h in
    let ss = and_parts (list_all (goes_before (k, term.Atom w)) fs) (stands fs) s in
    let x : ℕ × Term = (k, Val (Atom (number_of t.atoms w))) in
    with_first x (plain_feats t fs) (taken_feats t fs) (takes_from t k k fs (omega arith) parts.1)
    ∙ ap (λ (ys : List (ℕ × Term)). x ∷ ys) (whole_every t k fs parts.1 ss.1)
whole_every t n ((k, term.Variable w) ∷ fs) h s =
    let parts = and_parts (leb n k) (rises k fs) h in
    let ss = and_parts (list_all (goes_before (k, term.Variable w)) fs) (stands fs) s in
    let x : ℕ × Term = (k, Var (number_of t.variables w)) in
    with_first x (plain_feats t fs) (taken_feats t fs) (takes_from t k k fs (omega arith) parts.1)
    ∙ ap (λ (ys : List (ℕ × Term)). x ∷ ys) (whole_every t k fs parts.1 ss.1)
whole_every t n ((k, term.Taken w) ∷ fs) h s =
    let parts = and_parts (leb n k) (rises k fs) h in
    let ss = and_parts (list_all (goes_before (k, term.Taken w)) fs) (stands fs) s in
    let x : ℕ × Term = (k, Var (number_of t.variables w)) in
    ap (λ (ys : List (ℕ × Term)). with_taken ys (taken_feats t fs)) (put_first x (plain_feats t fs) (plain_above t k w fs ss.0))
    ∙ with_first x (plain_feats t fs) (taken_feats t fs) (takes_from t k k fs (omega arith) parts.1)
    ∙ ap (λ (ys : List (ℕ × Term)). x ∷ ys) (whole_every t k fs parts.1 ss.1)

-- Variables

pub term_numbered : (t : Tables) (w : WrittenTerm) → term_variables (numbered_term t w) ≡ map (number_of t.variables) (term_names w)
term_numbered t (term.Atom w) = refl
term_numbered t (term.Variable w) = refl
term_numbered t (term.Taken w) = refl

pub every_variables : (t : Tables) (fs : List (ℕ × WrittenTerm))
    → flat_map (λ f. term_variables f.1) (every_feat t fs) ≡ map (number_of t.variables) (flat_map (λ f. term_names f.1) fs)
every_variables t [] = refl
every_variables t (f ∷ fs) =
    ap (λ (x : List ℕ). x ++ flat_map (λ y. term_variables y.1) (every_feat t fs)) (term_numbered t f.1)
    ∙ ap (λ (x : List ℕ). map (number_of t.variables) (term_names f.1) ++ x) (every_variables t fs)
    ∙ sym (map-append (number_of t.variables) (term_names f.1) (flat_map (λ y. term_names y.1) fs))
