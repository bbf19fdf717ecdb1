-- That pairs lead on, from what is told of each element by one that comes before it.
use Rattle.std.proofs.Common.{◌≡◌, ℕ, zero, suc, ◌+◌, ◌<◌, ◌==◌, ◌&&◌, Bool, true, false, List, [], ◌∷◌, length, get_or, drop, ◌⊎◌, inl, inr, refl, sym, ap, ◌∙◌, subst, arith}
use Rattle.std.specs.List.{list_all}
use Rattle.std.proofs.lemmas.Bool.{true≢false, cases_Bool, cases_lt, eq-eqb, eqb-true, and_from, and_parts, or_cases, or_left, or_right}
use Rattle.std.proofs.lemmas.List.{get_or_default}
use Rattle.wiki_base.proofs.BoolLaws.{not_both}
use Rattle.logic_terms.specs.Meaning.{implies}
use Rattle.owl_eval.specs.Leads.{spans, successor_count, ComesBefore, IsLed}
use Rattle.owl_eval.specs.Pairs.{is_paired, leads_on}

-- the pair of two elements, found in a list
found : (ps : List (ℕ × ℕ)) (p : ℕ × ℕ) (x y : ℕ) → is_paired (p ∷ ps) x y ≡ true → (p ≡ (x, y)) ⊎ (is_paired ps x y ≡ true)
found ps p x y h = elim (or_cases ((p.0 == x) && (p.1 == y)) (is_paired ps x y) h) [
  | inl here ↦
      let same = and_parts (p.0 == x) (p.1 == y) here in
      inl (λ i. (eqb-true p.0 x same.0 i, eqb-true p.1 y same.1 i))
  | inr there ↦ inr there
]

-- the first pair is one, and so is each of the others
first_paired : (ps : List (ℕ × ℕ)) (p : ℕ × ℕ) → is_paired (p ∷ ps) p.0 p.1 ≡ true
first_paired ps p =
    or_left ((p.0 == p.0) && (p.1 == p.1)) (is_paired ps p.0 p.1)
    (and_from (p.0 == p.0) (p.1 == p.1) (eq-eqb p.0 p.0 refl) (eq-eqb p.1 p.1 refl))

-- a test that a list passes is passed by each of its pairs
pub at_pair : (test : ℕ × ℕ → Bool) (ps : List (ℕ × ℕ)) (x y : ℕ) → list_all test ps ≡ true → is_paired ps x y ≡ true → test (x, y) ≡ true
at_pair test [] x y all h = absurd (true≢false (sym h))
at_pair test (p ∷ ps) x y all h =
    let parts = and_parts (test p) (list_all test ps) all in
    elim (found ps p x y h) [
      | inl same ↦ subst (λ q. test q ≡ true) same parts.0
      | inr there ↦ at_pair test ps x y parts.1 there
    ]

pub from_pairs : (test : ℕ × ℕ → Bool) (ps : List (ℕ × ℕ)) → ((x y : ℕ) → is_paired ps x y ≡ true → test (x, y) ≡ true) → list_all test ps ≡ true
from_pairs test [] each = refl
from_pairs test (p ∷ ps) each =
    and_from (test p) (list_all test ps) (each p.0 p.1 (first_paired ps p))
    (from_pairs test ps (λ x y h. each x y (or_right ((p.0 == x) && (p.1 == y)) (is_paired ps x y) h)))

-- what holds at each place of a list holds of each pair
pub at_places : (P : ℕ → ℕ → Type 0) (ps : List (ℕ × ℕ)) → ((k : ℕ) (d : ℕ × ℕ) → k < length ps → P (get_or ps k d).0 (get_or ps k d).1)
    → (x y : ℕ) → is_paired ps x y ≡ true → P x y
at_places P [] each x y h = absurd (true≢false (sym h))
at_places P (p ∷ ps) each x y h = elim (found ps p x y h) [
  | inl same ↦ subst (λ q. P q.0 q.1) same (each 0 p (omega arith))
  | inr there ↦ at_places P ps (λ k d lt. each (suc k) d (omega (arith, lt))) x y there
]

pub place_paired : (ps : List (ℕ × ℕ)) (k : ℕ) (d : ℕ × ℕ) → k < length ps → is_paired ps (get_or ps k d).0 (get_or ps k d).1 ≡ true
place_paired [] k d lt = absurd (omega (arith, lt))
place_paired (p ∷ ps) zero d lt = first_paired ps p
place_paired (p ∷ ps) (suc k) d lt =
    or_right ((p.0 == (get_or ps k d).0) && (p.1 == (get_or ps k d).1)) (is_paired ps (get_or ps k d).0 (get_or ps k d).1)
    (place_paired ps k d (omega (arith, lt)))

-- the pairs from a place on are among all
pub drop_paired : (k : ℕ) (ps : List (ℕ × ℕ)) (x y : ℕ) → is_paired (drop k ps) x y ≡ true → is_paired ps x y ≡ true
drop_paired zero ps x y h = h
drop_paired (suc k) [] x y h = h
drop_paired (suc k) (p ∷ ps) x y h = or_right ((p.0 == x) && (p.1 == y)) (is_paired ps x y) (drop_paired k ps x y h)

pub first_met : (ps : List (ℕ × ℕ)) (x y : ℕ) → 0 < length ps → ((d : ℕ × ℕ) → ((get_or ps 0 d).0 ≡ x) × ((get_or ps 0 d).1 ≡ y)) → is_paired ps x y ≡ true
first_met ps x y some same =
    subst (λ v. is_paired ps x v ≡ true) (same (0, 0)).1
    (subst (λ u. is_paired ps u (get_or ps 0 (0, 0)).1 ≡ true) (same (0, 0)).0 (place_paired ps 0 (0, 0) some))

module _ (ps : List (ℕ × ℕ)) where
  -- what `spans` says, and what says it
  spans_at : (x y z : ℕ) → spans ps x y ≡ true → is_paired ps y z ≡ true → is_paired ps x z ≡ true
  spans_at x y z h yz =
      ap (λ b. implies b (is_paired ps x z)) (sym (eq-eqb y y refl)) ∙ at_pair (λ q. implies (q.0 == y) (is_paired ps x q.1)) ps y z h yz

  spans_from : (x y : ℕ) → ((z : ℕ) → is_paired ps y z ≡ true → is_paired ps x z ≡ true) → spans ps x y ≡ true
  spans_from x y each = from_pairs (λ q. implies (q.0 == y) (is_paired ps x q.1)) ps (λ u z uz. elim (cases_Bool (u == y)) [
    | inl same ↦
        ap (λ b. implies b (is_paired ps x z)) same ∙ each z (subst (λ v. is_paired ps v z ≡ true) (eqb-true u y same) uz)
    | inr other ↦ ap (λ b. implies b (is_paired ps x z)) other
  ])

  spans_over : (x w y : ℕ) → spans ps x w ≡ true → spans ps w y ≡ true → spans ps x y ≡ true
  spans_over x w y xw wy = spans_from x y (λ z yz. spans_at x w z xw (spans_at w y z wy yz))

  abbrev Closed : ℕ → Type 0
  Closed x = (y : ℕ) → is_paired ps x y ≡ true → spans ps x y ≡ true

  module _ (led : (x : ℕ) → IsLed ps x) where
    closed_by : (x : ℕ) → ((w : ℕ) → ComesBefore ps w x → Closed w) → Closed x
    closed_by x before y xy = elim (led x y xy) [
      | inl told ↦ told
      | inr by ↦ spans_over x by.relay y by.spanned (before by.relay by.before y by.leads)
    ]

    -- of elements with fewer successors than n, and of those below m with n of them
    closed_upto : (n : ℕ) → ((x : ℕ) → successor_count ps x < n → Closed x) → (m x : ℕ) → x < m → successor_count ps x ≡ n → Closed x
    closed_upto n fewer zero x lt same = absurd (omega (arith, lt))
    closed_upto n fewer (suc m) x lt same = closed_by x (λ w before. elim before [
      | inl less ↦ fewer w (omega (arith, less, same))
      | inr equal ↦ closed_upto n fewer m w (omega (arith, lt, equal.1)) (equal.0 ∙ same)
    ])

    closed_below : (n x : ℕ) → successor_count ps x < n → Closed x
    closed_below zero x lt = absurd (omega (arith, lt))
    closed_below (suc n) x lt = elim (cases_lt (successor_count ps x) n) [
      | inl less ↦ closed_below n x less
      | inr most ↦ closed_upto n (λ w. closed_below n w) (suc x) x (omega arith) (omega (arith, lt, most))
    ]

    pub all_led : leads_on ps ≡ true
    all_led = from_pairs (λ p. spans ps p.0 p.1) ps (λ x y xy. closed_below (suc (successor_count ps x)) x (omega arith) y xy)

  -- one pair by which they don't lead on
  pub not_led : (x y : ℕ) → is_paired ps x y ≡ true → spans ps x y ≡ false → leads_on ps ≡ false
  not_led x y xy not = elim (cases_Bool (leads_on ps)) [
    | inl on ↦ absurd (not_both (at_pair (λ p. spans ps p.0 p.1) ps x y on xy) not)
    | inr off ↦ off
  ]

-- what holds of the pairs up to a place, and of the one there
pub place_more : (P : ℕ × ℕ → Type 0) (ps : List (ℕ × ℕ)) (i : ℕ) (e : ℕ × ℕ) → i < length ps → ((k : ℕ) (d : ℕ × ℕ) → k < i → P (get_or ps k d))
    → P (get_or ps i e) → (k : ℕ) (d : ℕ × ℕ) → k < i + 1 → P (get_or ps k d)
place_more P ps i e lt before here k d low = elim (cases_lt k i) [
  | inl less ↦ before k d less
  | inr most ↦
      let same : i ≡ k = omega (arith, low, most) in
      subst (λ n. P (get_or ps n d)) same (subst P (get_or_default ps i e d lt) here)
]
