-- Where no feature stands twice in a pattern, no marked feature stands before an unmarked one of its number.
use Rattle.std.proofs.Common.{◌≡◌, ℕ, ◌≤◌, Bool, true, false, not, ◌&&◌, ◌||◌, eqb, ltb, leb, List, [], ◌∷◌, map, length, refl, sym, ap, ◌∙◌, arith, inl, inr}
use Rattle.std.specs.List.{list_all}
use Rattle.std.proofs.lemmas.Bool.{and_parts, and_from, or_parts, or_from, or_left, or_right, cases_Bool, ltb-false, leb-true, lt-ltb, le-ltb, or_cases, eqb-true, eqb-false, eq-eqb, both_ways, not-true, not_from_false, false_from_ne_true, cond-true, cond-false}
use Rattle.codeco_terms.specs.declared.values.Term.{Term}
use Rattle.codeco_terms.specs.declared.values.Term.TheVariants.{Var}
use Rattle.codeco_text.specs.declared.written.WrittenTerm.{WrittenTerm}
use Rattle.codeco_text.specs.declared.written.WrittenTerm.TheVariants as term
use Rattle.codeco_text.specs.Notation.{is_marked}
use Rattle.codeco_checked.specs.Occurrences.{put_feature, with_taken}
use Rattle.codeco_checked.specs.Numbering.{has, count_different}
use Rattle.codeco_checked.specs.Faults.{is_double}
use Rattle.codeco_numbering.specs.Numbered.{Tables, numbered_term, plain_feats, taken_feats}
use Rattle.wiki_base.proofs.ListLaws.{all_weaken}
use Rattle.codeco_numbering.proofs.Sound.Order.{rises, goes_before, stands}

-- no number stands twice
abbrev pub apart : List ℕ → Bool
apart [] = true
apart (x ∷ xs) = not (has xs x) && apart xs

count_most : (xs : List ℕ) → count_different xs ≤ length xs
count_most [] = omega arith
count_most (x ∷ xs) =
    let rest = count_most xs in
    elim (cases_Bool (has xs x)) [
      | inl old ↦ let e = cond-true {A = ℕ} (has xs x) 0 1 old in omega arith
      | inr new ↦ let e = cond-false {A = ℕ} (has xs x) 0 1 new in omega arith
    ]

pub not_double : (xs : List ℕ) → is_double xs ≡ false → apart xs ≡ true
not_double [] h = refl
not_double (x ∷ xs) h =
    let le = ltb-false (count_different (x ∷ xs)) (length (x ∷ xs)) h in
    let most = count_most xs in
    elim (cases_Bool (has xs x)) [
      | inl old ↦ let e = cond-true {A = ℕ} (has xs x) 0 1 old in absurd (omega arith)
      | inr new ↦
          let e = cond-false {A = ℕ} (has xs x) 0 1 new in
          and_from (not (has xs x)) (apart xs) (not_from_false (has xs x) new) (not_double xs (le-ltb (count_different xs) (length xs) (omega arith)))
    ]

abbrev numbers : List (ℕ × Term) → List ℕ
numbers fs = map (λ f. f.0) fs

put_has : (x : ℕ × Term) (ys : List (ℕ × Term)) (n : ℕ) → has (numbers ys) n ≡ true → has (numbers (put_feature x ys)) n ≡ true
put_has x [] n h = absurd cc
put_has x (y ∷ ys) n h =
    elim (cases_Bool (ltb x.0 y.0)) [
      | inl low ↦ ap (λ (zs : List (ℕ × Term)). has (numbers zs) n) (cond-true (ltb x.0 y.0) (x ∷ y ∷ ys) (y ∷ put_feature x ys) low)
          ∙ or_right (eqb n x.0) (has (numbers (y ∷ ys)) n) h
      | inr high ↦
          ap (λ (zs : List (ℕ × Term)). has (numbers zs) n) (cond-false (ltb x.0 y.0) (x ∷ y ∷ ys) (y ∷ put_feature x ys) high)
          ∙ elim (or_cases (eqb n y.0) (has (numbers ys) n) h) [
            | inl here ↦ or_left (eqb n y.0) (has (numbers (put_feature x ys)) n) here
            | inr there ↦ or_right (eqb n y.0) (has (numbers (put_feature x ys)) n) (put_has x ys n there)
          ]
    ]

put_has_it : (x : ℕ × Term) (ys : List (ℕ × Term)) → has (numbers (put_feature x ys)) x.0 ≡ true
put_has_it x [] = or_left (eqb x.0 x.0) false (eq-eqb x.0 x.0 refl)
put_has_it x (y ∷ ys) =
    elim (cases_Bool (ltb x.0 y.0)) [
      | inl low ↦ ap (λ (zs : List (ℕ × Term)). has (numbers zs) x.0) (cond-true (ltb x.0 y.0) (x ∷ y ∷ ys) (y ∷ put_feature x ys) low)
          ∙ or_left (eqb x.0 x.0) (has (numbers (y ∷ ys)) x.0) (eq-eqb x.0 x.0 refl)
      | inr high ↦ ap (λ (zs : List (ℕ × Term)). has (numbers zs) x.0) (cond-false (ltb x.0 y.0) (x ∷ y ∷ ys) (y ∷ put_feature x ys) high)
          ∙ or_right (eqb x.0 y.0) (has (numbers (put_feature x ys)) x.0) (put_has_it x ys)
    ]

-- a number that isn't there with a feature put among the others isn't there without it
put_lacks : (x : ℕ × Term) (ys : List (ℕ × Term)) (n : ℕ) → has (numbers (put_feature x ys)) n ≡ false → has (numbers ys) n ≡ false
put_lacks x ys n h = false_from_ne_true (has (numbers ys) n) (λ e. both_ways (has (numbers (put_feature x ys)) n) h (put_has x ys n e))

put_apart : (x : ℕ × Term) (ys : List (ℕ × Term)) → apart (numbers (put_feature x ys)) ≡ true → (has (numbers ys) x.0 ≡ false) × (apart (numbers ys) ≡ true)
put_apart x [] h = (refl, refl)
put_apart x (y ∷ ys) h =
    elim (cases_Bool (ltb x.0 y.0)) [
      | inl low ↦
          let parts = and_parts (not (has (numbers (y ∷ ys)) x.0)) (apart (numbers (y ∷ ys)))
          (ap (λ (zs : List (ℕ × Term)). apart (numbers zs)) (sym (cond-true (ltb x.0 y.0) (x ∷ y ∷ ys) (y ∷ put_feature x ys) low)) ∙ h) in
          (not-true (has (numbers (y ∷ ys)) x.0) parts.0, parts.1)
      | inr high ↦
          let more = put_feature x ys in
          let parts = and_parts (not (has (numbers more) y.0)) (apart (numbers more))
          (ap (λ (zs : List (ℕ × Term)). apart (numbers zs)) (sym (cond-false (ltb x.0 y.0) (x ∷ y ∷ ys) (y ∷ more) high)) ∙ h) in
          let rest = put_apart x ys parts.1 in
          let lacks = not-true (has (numbers more) y.0) parts.0 in
          let other : eqb x.0 y.0 ≡ false =
          false_from_ne_true (eqb x.0 y.0)
          (λ e. both_ways (has (numbers more) y.0) lacks (ap (has (numbers more)) (sym (eqb-true x.0 y.0 e)) ∙ put_has_it x ys)) in (
            or_from (eqb x.0 y.0) (has (numbers ys) x.0) other rest.0,
            and_from (not (has (numbers ys) y.0)) (apart (numbers ys)) (not_from_false (has (numbers ys) y.0) (put_lacks x ys y.0 lacks)) rest.1,
          )
    ]

-- none of these numbers is a marked feature's
abbrev lacks_taken : List (ℕ × Term) → List (ℕ × ℕ) → Bool
lacks_taken fs ts = list_all (λ t. not (has (numbers fs) t.0)) ts

taken_apart : (fs : List (ℕ × Term)) (ts : List (ℕ × ℕ)) → apart (numbers (with_taken fs ts)) ≡ true → (lacks_taken fs ts ≡ true) × (apart (numbers fs) ≡ true)
taken_apart fs [] h = (refl, h)
taken_apart fs (t ∷ ts) h =
    let it : ℕ × Term = (t.0, Var t.1) in
    let rest = taken_apart (put_feature it fs) ts h in
    let here = put_apart it fs rest.1 in (
      and_from (not (has (numbers fs) t.0)) (lacks_taken fs ts) (not_from_false (has (numbers fs) t.0) here.0)
          (all_weaken (λ u. not (has (numbers (put_feature it fs)) u.0)) (λ u. not (has (numbers fs) u.0))
          (λ u k. not_from_false (has (numbers fs) u.0) (put_lacks it fs u.0 (not-true (has (numbers (put_feature it fs)) u.0) k))) ts rest.0),
      here.1,
    )

one_above : (m n : ℕ) → m ≤ n → eqb m n ≡ false → ltb m n ≡ true
one_above m n le h =
    let ne = eqb-false m n h in
    lt-ltb m n (omega arith)

above : (t : Tables) (m n : ℕ) (w : List ℕ) (fs : List (ℕ × WrittenTerm)) → m ≤ n → rises n fs ≡ true → has (numbers (plain_feats t fs)) m ≡ false
    → list_all (goes_before (m, term.Taken w)) fs ≡ true
above t m n w [] le h k = refl
above t m n w ((i, term.Atom v) ∷ fs) le h k =
    let parts = and_parts (leb n i) (rises i fs) h in
    let here = leb-true n i parts.0 in
    let ks = or_parts (eqb m i) (has (numbers (plain_feats t fs)) m) k in
    and_from (ltb m i) (list_all (goes_before (m, term.Taken w)) fs) (one_above m i (omega arith) ks.0) (above t m i w fs (omega arith) parts.1 ks.1)
above t m n w ((i, term.Variable v) ∷ fs) le h k =
    let parts = and_parts (leb n i) (rises i fs) h in
    let here = leb-true n i parts.0 in
    let ks = or_parts (eqb m i) (has (numbers (plain_feats t fs)) m) k in
    and_from (ltb m i) (list_all (goes_before (m, term.Taken w)) fs) (one_above m i (omega arith) ks.0) (above t m i w fs (omega arith) parts.1 ks.1)
above t m n w ((i, term.Taken v) ∷ fs) le h k =
    let parts = and_parts (leb n i) (rises i fs) h in
    let here = leb-true n i parts.0 in
    above t m i w fs (omega arith) parts.1 k

all_before : (x : ℕ × WrittenTerm) (fs : List (ℕ × WrittenTerm)) → is_marked x.1 ≡ false → list_all (goes_before x) fs ≡ true
all_before x [] h = refl
all_before x (f ∷ fs) h = and_from (goes_before x f) (list_all (goes_before x) fs)
    (or_left (not (is_marked x.1)) (is_marked f.1 || ltb x.0 f.0) (not_from_false (is_marked x.1) h)) (all_before x fs h)

lacks_tail : (f : ℕ × Term) (fs : List (ℕ × Term)) (ts : List (ℕ × ℕ)) → lacks_taken (f ∷ fs) ts ≡ true → lacks_taken fs ts ≡ true
lacks_tail f fs ts h = all_weaken (λ u. not (has (numbers (f ∷ fs)) u.0)) (λ u. not (has (numbers fs) u.0))
    (λ u k. not_from_false (has (numbers fs) u.0) (or_parts (eqb u.0 f.0) (has (numbers fs) u.0) (not-true (has (numbers (f ∷ fs)) u.0) k)).1) ts h

stand_apart : (t : Tables) (n : ℕ) (fs : List (ℕ × WrittenTerm)) → rises n fs ≡ true → lacks_taken (plain_feats t fs) (taken_feats t fs) ≡ true
    → stands fs ≡ true
stand_apart t n [] h k = refl
stand_apart t n ((i, term.Atom w) ∷ fs) h k =
    let parts = and_parts (leb n i) (rises i fs) h in
    and_from (list_all (goes_before (i, term.Atom w)) fs) (stands fs) (all_before (i, term.Atom w) fs refl)
    (stand_apart t i fs parts.1 (lacks_tail (i, numbered_term t (term.Atom w)) (plain_feats t fs) (taken_feats t fs) k))
stand_apart t n ((i, term.Variable w) ∷ fs) h k =
    let parts = and_parts (leb n i) (rises i fs) h in
    and_from (list_all (goes_before (i, term.Variable w)) fs) (stands fs) (all_before (i, term.Variable w) fs refl)
    (stand_apart t i fs parts.1 (lacks_tail (i, numbered_term t (term.Variable w)) (plain_feats t fs) (taken_feats t fs) k))
stand_apart t n ((i, term.Taken w) ∷ fs) h k =
    let parts = and_parts (leb n i) (rises i fs) h in
    let ks = and_parts (not (has (numbers (plain_feats t fs)) i)) (lacks_taken (plain_feats t fs) (taken_feats t fs)) k in
    and_from (list_all (goes_before (i, term.Taken w)) fs) (stands fs)
    (above t i i w fs (omega arith) parts.1 (not-true (has (numbers (plain_feats t fs)) i) ks.0)) (stand_apart t i fs parts.1 ks.1)

-- where no feature stands twice among all, those in order stand as the notation wants
pub stands_apart : (t : Tables) (fs : List (ℕ × WrittenTerm)) → rises 0 fs ≡ true
    → is_double (numbers (with_taken (plain_feats t fs) (taken_feats t fs))) ≡ false → stands fs ≡ true
stands_apart t fs h d = stand_apart t 0 fs h
    (taken_apart (plain_feats t fs) (taken_feats t fs) (not_double (numbers (with_taken (plain_feats t fs) (taken_feats t fs))) d)).0
