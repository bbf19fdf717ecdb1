-- Groups of referents get one label where they are joined.
use Rattle.std.proofs.Common.{◌≡◌, ℕ, ◌==◌, ◌&&◌, ◌||◌, Bool, true, false, List, [], ◌∷◌, ◌++◌, refl, sym, ap, ◌∙◌}
use Rattle.std.specs.Prelude.{if◌then◌else◌}
use Rattle.std.specs.List.{list_any}
use Rattle.std.proofs.lemmas.Bool.{eq-eqb, ne_eqb, eqb-true, both_ways}
use Rattle.std.proofs.lemmas.List.Folds.{list_any-append}
use Rattle.std.proofs.Math.Bool.{or-false}
use Rattle.wiki_base.proofs.NumberLaws.{eqb_comm}
use Rattle.ace_to_owl.specs.Moves.{moved, gathered}
use Rattle.ace_to_owl.specs.Mapping.{joined}

-- a label after the first members of a group were gathered, and after one more
abbrev pub gathered_to : (ℕ → ℕ) → ℕ → List ℕ → ℕ → ℕ
gathered_to label target qs n = if list_any (λ r. label r == label n) qs then target else label n

step_by : (hit_n hit_q same : Bool) (t n q : ℕ) → same ≡ (q == n) → (hit_q ≡ true → same ≡ true → hit_n ≡ true)
    → moved (if hit_q then t else q) t (if hit_n then t else n) ≡ (if hit_n || same then t else n)
step_by true hit_q same t n q is carry = by (t == (if hit_q then t else q))
  where
    by : (b : Bool) → (if b then t else t) ≡ t
    by true = refl
    by false = refl
step_by false true true t n q is carry = let no : false ≡ true = carry refl refl in cc
step_by false true false t n q is carry = by (n == t) (λ e. eqb-true n t e)
  where
    by : (b : Bool) → (b ≡ true → n ≡ t) → (if b then t else n) ≡ n
    by true h = sym (h refl)
    by false h = refl
step_by false false same t n q is carry = ap (λ b. if b then t else n) (eqb_comm n q ∙ sym is)

hit_like : (label : ℕ → ℕ) (qs : List ℕ) (q n : ℕ) → label q ≡ label n → list_any (λ r. label r == label q) qs ≡ true
    → list_any (λ r. label r == label n) qs ≡ true
hit_like label qs q n same hit = ap (λ x. list_any (λ r. label r == x) qs) (sym same) ∙ hit

any_more : (test : ℕ → Bool) (qs : List ℕ) (q : ℕ) → list_any test (qs ++ q ∷ []) ≡ (list_any test qs || test q)
any_more test qs q = list_any-append test qs (q ∷ []) ∙ ap (λ b. list_any test qs || b) (or-false (test q))

pub gathered_more : (label : ℕ → ℕ) (target : ℕ) (qs : List ℕ) (q n : ℕ)
    → moved (gathered_to label target qs q) target (gathered_to label target qs n) ≡ gathered_to label target (qs ++ q ∷ []) n
gathered_more label target qs q n =
    step_by (list_any (λ r. label r == label n) qs) (list_any (λ r. label r == label q) qs) (label q == label n) target (label n) (label q) refl
    (λ hit same. hit_like label qs q n (eqb-true (label q) (label n) same) hit)
    ∙ ap (λ b. if b then target else label n) (sym (any_more (λ r. label r == label n) qs q))

-- two have one label after a group was gathered where they had before, or where both are with the group
same_by : (hq hp e : Bool) (t q p : ℕ) → e ≡ (q == p) → (hq ≡ true → hp ≡ false → e ≡ false) → (hq ≡ false → hp ≡ true → e ≡ false)
    → (hq ≡ true → hp ≡ false → (t == p) ≡ false) → (hq ≡ false → hp ≡ true → (q == t) ≡ false)
    → ((if hq then t else q) == (if hp then t else p)) ≡ (e || (hq && hp))
same_by true true true t q p is a b c d = eq-eqb t t refl
same_by true true false t q p is a b c d = eq-eqb t t refl
same_by true false e t q p is a b c d = c refl refl ∙ sym (ap (λ z. z || false) (a refl refl))
same_by false true e t q p is a b c d = d refl refl ∙ sym (ap (λ z. z || false) (b refl refl))
same_by false false e t q p is a b c d = sym is ∙ sym (or-false e)

first_missed : (label : ℕ → ℕ) (g : ℕ) (gs : List ℕ) (n : ℕ) → list_any (λ r. label r == label n) (g ∷ gs) ≡ false → (label g == label n) ≡ false
first_missed label g gs n miss = or_missed (label g == label n) (list_any (λ r. label r == label n) gs) miss
  where
    or_missed : (a b : Bool) → (a || b) ≡ false → a ≡ false
    or_missed true b h = h
    or_missed false b h = refl

gathered_same : (label : ℕ → ℕ) (g : ℕ) (gs : List ℕ) (q p : ℕ)
    → (gathered label (g ∷ gs) q == gathered label (g ∷ gs) p)
    ≡ ((label q == label p) || (list_any (λ r. label r == label q) (g ∷ gs) && list_any (λ r. label r == label p) (g ∷ gs)))
gathered_same label g gs q p =
    same_by (list_any (λ r. label r == label q) (g ∷ gs)) (list_any (λ r. label r == label p) (g ∷ gs)) (label q == label p) (label g) (label q) (label p) refl
    (λ hq hp. ne_eqb (label q) (label p) (λ e. both_ways (list_any (λ r. label r == label p) (g ∷ gs)) hp (hit_like label (g ∷ gs) q p e hq)))
    (λ hq hp. ne_eqb (label q) (label p) (λ e. both_ways (list_any (λ r. label r == label q) (g ∷ gs)) hq (hit_like label (g ∷ gs) p q (sym e) hp)))
    (λ hq hp. first_missed label g gs p hp)
    (λ hq hp. eqb_comm (label q) (label g) ∙ first_missed label g gs q hq)

-- one more group is gathered in front of those that the labels join already
pub joined_more : (label next : ℕ → ℕ) (group : List ℕ) (gs : List (List ℕ)) → ((q p : ℕ) → (label q == label p) ≡ joined gs q p)
    → ((n : ℕ) → next n ≡ gathered label group n) → (q p : ℕ) → (next q == next p) ≡ joined (group ∷ gs) q p
joined_more label next [] gs join gather q p =
    (λ j. gather q j == gather p j) ∙ join q p ∙ sym (or-false (joined gs q p))
joined_more label next (g ∷ hs) gs join gather q p =
    (λ j. gather q j == gather p j)
    ∙ gathered_same label g hs q p
    ∙ (λ j. join q p j || (list_any (λ r. (eqb_comm (label r) (label q) ∙ join q r) j) (g ∷ hs) && list_any (λ r. join r p j) (g ∷ hs)))
