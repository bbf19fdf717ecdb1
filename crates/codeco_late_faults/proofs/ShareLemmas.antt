-- Numbers that two lists in order share.
use Rattle.std.proofs.Common.{◌≡◌, ℕ, zero, suc, ◌+◌, ◌<◌, ◌≤◌, Bool, true, false, ◌||◌, eqb, ltb, leb, List, [], ◌∷◌, length, drop, get_or, refl, sym, ap, ◌∙◌, arith, inl, inr, add-one, drop-cons}
use Rattle.std.specs.List.{list_all}
use Rattle.std.proofs.lemmas.Bool.{and_parts, and_from, or_cases, or_left, ltb-true, lt-ltb, leb-true, eqb-true, eq-eqb, ne_eqb, false_from_ne_true}
use Rattle.wiki_base.proofs.ListLaws.{drop_past}
use Rattle.codeco_checked.proofs.NumberingLemmas.{ascends_tail}
use Rattle.codeco_checked.specs.Numbering.{has}
use Rattle.codeco_checked.specs.Sound.{ascends}
use Rattle.codeco_late_faults.specs.Order.{numbers, shares}
use Rattle.codeco_late_faults.proofs.DoubleLemmas.{from_first}
use Rattle.codeco_late_faults.proofs.PutLemmas.{shares_none}

at_place : {X : Type 0} (xs : List (ℕ × X)) (i : ℕ) (d : ℕ × X) → i < length xs → numbers (drop i xs) ≡ (get_or xs i d).0 ∷ numbers (drop (i + 1) xs)
at_place xs i d lt = rw (add-one, drop-cons xs i d) refl

ascends_drop : {X : Type 0} (xs : List (ℕ × X)) (i : ℕ) → ascends (numbers xs) ≡ true → ascends (numbers (drop i xs)) ≡ true
ascends_drop [] zero h = refl
ascends_drop [] (suc i) h = refl
ascends_drop (x ∷ xs) zero h = h
ascends_drop (x ∷ xs) (suc i) h = ascends_drop xs i (ascends_tail x.0 (numbers xs) h)

low_out : (f t : ℕ) (ts : List ℕ) → ascends (t ∷ ts) ≡ true → f < t → has (t ∷ ts) f ≡ false
low_out f t ts h lt =
    false_from_ne_true (has (t ∷ ts) f) (λ k. elim (or_cases (eqb f t) (has ts f) k) [
      | inl same ↦ let e = eqb-true f t same in absurd (omega arith)
      | inr later ↦ let le = from_first t ts f h later in absurd (omega arith)
    ])

all_above : (t x : ℕ) (xs : List ℕ) → ascends (x ∷ xs) ≡ true → t < x → list_all (ltb t) (x ∷ xs) ≡ true
all_above t x [] h lt = and_from (ltb t x) true (lt-ltb t x lt) refl
all_above t x (y ∷ ys) h lt =
    let parts = and_parts (leb x y) (ascends (y ∷ ys)) h in
    let le = leb-true x y parts.0 in
    and_from (ltb t x) (list_all (ltb t) (y ∷ ys)) (lt-ltb t x lt) (all_above t y ys parts.1 (omega arith))

skip : (t : ℕ) (ts zs : List ℕ) → list_all (ltb t) zs ≡ true → shares zs ts ≡ shares zs (t ∷ ts)
skip t ts [] h = refl
skip t ts (z ∷ zs) h =
    let parts = and_parts (ltb t z) (list_all (ltb t) zs) h in
    let lt = ltb-true t z parts.0 in
    ap (λ b. has ts z || b) (skip t ts zs parts.1) ∙ ap (λ b. (b || has ts z) || shares zs (t ∷ ts)) (sym (ne_eqb z t (λ e. omega arith)))

-- the first number of the one list is below those of the other
pub shares_low : {X Y : Type 0} (xs : List (ℕ × X)) (ys : List (ℕ × Y)) (i j : ℕ) (d : ℕ × X) (e : ℕ × Y) (all : Bool) → ascends (numbers ys) ≡ true
    → i < length xs → j < length ys → (get_or xs i d).0 < (get_or ys j e).0 → shares (numbers (drop i xs)) (numbers (drop j ys)) ≡ all
    → shares (numbers (drop (i + 1) xs)) (numbers (drop j ys)) ≡ all
shares_low xs ys i j d e all up lt low less h =
    let f = (get_or xs i d).0 in
    let t = (get_or ys j e).0 in
    let rest = numbers (drop (i + 1) xs) in
    let others = numbers (drop j ys) in
    let out : has others f ≡ false = ap (λ zs. has zs f) (at_place ys j e low)
    ∙ low_out f t (numbers (drop (j + 1) ys)) (ap ascends (sym (at_place ys j e low)) ∙ ascends_drop ys j up) less in
    sym (ap (λ zs. shares zs others) (at_place xs i d lt) ∙ ap (λ b. b || shares rest others) out) ∙ h

-- the first number of the other list is below those of the one
pub shares_high : {X Y : Type 0} (xs : List (ℕ × X)) (ys : List (ℕ × Y)) (i j : ℕ) (d : ℕ × X) (e : ℕ × Y) (all : Bool) → ascends (numbers xs) ≡ true
    → i < length xs → j < length ys → (get_or ys j e).0 < (get_or xs i d).0 → shares (numbers (drop i xs)) (numbers (drop j ys)) ≡ all
    → shares (numbers (drop i xs)) (numbers (drop (j + 1) ys)) ≡ all
shares_high xs ys i j d e all up lt low less h =
    let t = (get_or ys j e).0 in
    let zs = numbers (drop i xs) in
    let above : list_all (ltb t) zs ≡ true =
    ap (list_all (ltb t)) (at_place xs i d lt)
    ∙ all_above t (get_or xs i d).0 (numbers (drop (i + 1) xs)) (ap ascends (sym (at_place xs i d lt)) ∙ ascends_drop xs i up) less in
    skip t (numbers (drop (j + 1) ys)) zs above ∙ ap (shares zs) (sym (at_place ys j e low)) ∙ h

pub shares_here : {X Y : Type 0} (xs : List (ℕ × X)) (ys : List (ℕ × Y)) (i j : ℕ) (d : ℕ × X) (e : ℕ × Y) (all : Bool) → i < length xs → j < length ys
    → (get_or xs i d).0 ≡ (get_or ys j e).0 → shares (numbers (drop i xs)) (numbers (drop j ys)) ≡ all → true ≡ all
shares_here xs ys i j d e all lt low same h =
    let f = (get_or xs i d).0 in
    let others = numbers (drop j ys) in
    let in_it : has others f ≡ true = ap (λ zs. has zs f) (at_place ys j e low)
    ∙ or_left (eqb f (get_or ys j e).0) (has (numbers (drop (j + 1) ys)) f) (eq-eqb f (get_or ys j e).0 same) in
    sym (ap (λ zs. shares zs others) (at_place xs i d lt) ∙ or_left (has others f) (shares (numbers (drop (i + 1) xs)) others) in_it) ∙ h

pub shares_end : {X Y : Type 0} (xs : List (ℕ × X)) (ys : List (ℕ × Y)) (i j : ℕ) (all : Bool) → length xs ≤ i
    → shares (numbers (drop i xs)) (numbers (drop j ys)) ≡ all → false ≡ all
shares_end xs ys i j all le h = ap (λ zs. shares (numbers zs) (numbers (drop j ys))) (sym (drop_past xs i le)) ∙ h

pub shares_out : {X Y : Type 0} (xs : List (ℕ × X)) (ys : List (ℕ × Y)) (i j : ℕ) (all : Bool) → length ys ≤ j
    → shares (numbers (drop i xs)) (numbers (drop j ys)) ≡ all → false ≡ all
shares_out xs ys i j all le h = sym (shares_none (numbers (drop i xs))) ∙ ap (λ zs. shares (numbers (drop i xs)) (numbers zs)) (sym (drop_past ys j le)) ∙ h
