-- Sets of small numbers.
use Rattle.std.proofs.Common.{◌≡◌, ℕ, ◌<◌, Bool, true, false, ◌||◌, eqb, List, [], ◌∷◌, ◌++◌, length, set, get_or, replicate, refl, sym, ap, ◌∙◌, subst, arith, inl, inr, length-set, get_or-set_other, map, drop, add-one, drop-cons, ◌+◌, suc}
use Rattle.std.specs.List.{list_any, flat_map}
use Rattle.std.proofs.lemmas.Grind.{flat_map-append}
use Rattle.std.proofs.lemmas.List.{get_or-set_same, get_or-replicate, length-replicate}
use Rattle.std.proofs.lemmas.List.Folds.{list_any-append}
use Rattle.std.proofs.lemmas.Bool.{cases_eq, eq-eqb, ne_eqb, or_right, or_left}
use Rattle.codeco_checked.specs.Numbering.{has}
use Rattle.codeco_late_faults.specs.Marks.{marked, IsSetOf}

pub append_nil : {X : Type 0} (xs : List X) → xs ++ [] ≡ xs
append_nil [] = refl
append_nil (x ∷ xs) = ap (λ ys. x ∷ ys) (append_nil xs)

pub marked_append : (m : List Bool) (xs ys : List ℕ) → marked m (xs ++ ys) ≡ marked (marked m xs) ys
marked_append m [] ys = refl
marked_append m (x ∷ xs) ys = marked_append (set m x true) xs ys

pub length_marked : (m : List Bool) (xs : List ℕ) → length (marked m xs) ≡ length m
length_marked m [] = refl
length_marked m (x ∷ xs) = length_marked (set m x true) xs ∙ length-set m x true

or_turn : (a b c : Bool) → ((a || b) || c) ≡ (b || (a || c))
or_turn true true c = refl
or_turn true false c = refl
or_turn false true c = refl
or_turn false false c = refl

set_at : (m : List Bool) (y x : ℕ) → x < length m → get_or (set m y true) x false ≡ (get_or m x false || eqb x y)
set_at m y x lt =
    elim (cases_eq x y) [
      | inl same ↦
          subst (λ z. get_or (set m z true) x false ≡ true) same (get_or-set_same m x true false lt)
          ∙ sym (or_right (get_or m x false) (eqb x y) (eq-eqb x y same))
      | inr other ↦ get_or-set_other m y x true false other ∙ sym (or_none (get_or m x false) (eqb x y) (ne_eqb x y other))
    ]
  where
    or_none : (a b : Bool) → b ≡ false → (a || b) ≡ a
    or_none true b h = refl
    or_none false b h = h

-- a number is marked where it was or where it is one of these
pub marked_has : (m : List Bool) (xs : List ℕ) (x : ℕ) → x < length m → get_or (marked m xs) x false ≡ (get_or m x false || has xs x)
marked_has m [] x lt = sym (or_nothing (get_or m x false))
  where
    or_nothing : (a : Bool) → (a || false) ≡ a
    or_nothing true = refl
    or_nothing false = refl
marked_has m (y ∷ ys) x lt =
    let long : x < length (set m y true) = omega (arith, length-set m y true) in
    marked_has (set m y true) ys x long ∙ ap (λ b. b || has ys x) (set_at m y x lt) ∙ or_assoc (get_or m x false) (eqb x y) (has ys x)
  where
    or_assoc : (a b c : Bool) → ((a || b) || c) ≡ (a || (b || c))
    or_assoc true b c = refl
    or_assoc false b c = refl

pub set_has : (size : ℕ) (m : List Bool) (xs : List ℕ) (x : ℕ) → IsSetOf size m xs → x < size → get_or m x false ≡ has xs x
set_has size m xs x h lt =
    let long : x < length (replicate size false) = omega (arith, length-replicate size false) in
    ap (λ n. get_or n x false) h ∙ marked_has (replicate size false) xs x long ∙ ap (λ b. b || has xs x) (get_or-replicate size x false false lt)

-- the set of both lists
pub set_both : (size : ℕ) (m n : List Bool) (xs ys : List ℕ) → IsSetOf size m xs → n ≡ marked m ys → IsSetOf size n (xs ++ ys)
set_both size m n xs ys h k = k ∙ ap (λ z. marked z ys) h ∙ sym (marked_append (replicate size false) xs ys)

-- one of the numbers that stand beside others passes, or the others decide
pub any_second_stop : (p : ℕ → Bool) (ts : List (ℕ × ℕ)) (i : ℕ) (d : ℕ × ℕ) (all : Bool) → i < length ts → list_any p (map (λ t. t.1) (drop i ts)) ≡ all
    → p (get_or ts i d).1 ≡ true → true ≡ all
any_second_stop p ts i d all lt h here =
    let step : list_any p (map (λ t. t.1) (drop i ts)) ≡ (p (get_or ts i d).1 || list_any p (map (λ t. t.1) (drop (i + 1) ts))) =
    rw (add-one, drop-cons ts i d) refl in
    sym (step ∙ or_left _ _ here) ∙ h

pub any_second_go : (p : ℕ → Bool) (ts : List (ℕ × ℕ)) (i : ℕ) (d : ℕ × ℕ) (all : Bool) → i < length ts → list_any p (map (λ t. t.1) (drop i ts)) ≡ all
    → p (get_or ts i d).1 ≡ false → list_any p (map (λ t. t.1) (drop (i + 1) ts)) ≡ all
any_second_go p ts i d all lt h here =
    let step : list_any p (map (λ t. t.1) (drop i ts)) ≡ (p (get_or ts i d).1 || list_any p (map (λ t. t.1) (drop (i + 1) ts))) =
    rw (add-one, drop-cons ts i d) refl in
    sym (step ∙ ap (λ b. b || list_any p (map (λ t. t.1) (drop (i + 1) ts))) here) ∙ h

-- a set with the numbers of one more item
pub mark_step : {X : Type 0} (F : X → List ℕ) (xs : List X) (i : ℕ) (x : X) (m n all : List Bool) → i < length xs → x ≡ get_or xs i x → n ≡ marked m (F x)
    → marked m (flat_map F (drop i xs)) ≡ all → marked n (flat_map F (drop (i + 1) xs)) ≡ all
mark_step F xs i x m n all lt is new h =
    let step : drop i xs ≡ x ∷ drop (i + 1) xs = rw (add-one, drop-cons xs i x) (ap (λ y. y ∷ drop (suc i) xs) (sym is)) in
    let more : marked m (flat_map F (drop i xs)) ≡ marked (marked m (F x)) (flat_map F (drop (i + 1) xs)) =
    ap (λ ys. marked m (flat_map F ys)) step ∙ marked_append m (F x) (flat_map F (drop (i + 1) xs)) in
    ap (λ z. marked z (flat_map F (drop (i + 1) xs))) new ∙ sym more ∙ h

-- std's law, under a name that an attribute can write
pub any_append : {X : Type 0} (p : X → Bool) (xs ys : List X) → list_any p (xs ++ ys) ≡ (list_any p xs || list_any p ys)
any_append p xs ys = list_any-append p xs ys

taken_both : {X : Type 0} (F G : X → List ℕ) (ps ns : List X)
    → list_any (has (flat_map F (ps ++ ns))) (flat_map G (ps ++ ns))
    ≡ (list_any (has (flat_map F ps ++ flat_map F ns)) (flat_map G ps) || list_any (has (flat_map F ps ++ flat_map F ns)) (flat_map G ns))
taken_both F G ps ns =
    ap (λ zs. list_any (has zs) (flat_map G (ps ++ ns))) (flat_map-append F ps ns)
    ∙ ap (list_any (has (flat_map F ps ++ flat_map F ns))) (flat_map-append G ps ns)
    ∙ list_any-append (has (flat_map F ps ++ flat_map F ns)) (flat_map G ps) (flat_map G ns)

-- whether one of the taken numbers of two lists is among the plain ones of both
pub taken_first : {X : Type 0} (F G : X → List ℕ) (ps ns : List X) (r : Bool) → r ≡ list_any (has (flat_map F ps ++ flat_map F ns)) (flat_map G ps) → r ≡ true
    → r ≡ list_any (has (flat_map F (ps ++ ns))) (flat_map G (ps ++ ns))
taken_first F G ps ns r h here =
    here ∙ sym (or_left _ _ (sym h ∙ here)) ∙ sym (taken_both F G ps ns)

pub taken_second : {X : Type 0} (F G : X → List ℕ) (ps ns : List X) (r q : Bool) → q ≡ list_any (has (flat_map F ps ++ flat_map F ns)) (flat_map G ps)
    → q ≡ false → r ≡ list_any (has (flat_map F ps ++ flat_map F ns)) (flat_map G ns) → r ≡ list_any (has (flat_map F (ps ++ ns))) (flat_map G (ps ++ ns))
taken_second F G ps ns r q h none k =
    k ∙ ap (λ b. b || list_any (has (flat_map F ps ++ flat_map F ns)) (flat_map G ns)) (sym none ∙ h) ∙ sym (taken_both F G ps ns)
