-- Walking along pairs in rising order of ends, after an end.
use Rattle.std.proofs.Common.{◌≡◌, ℕ, ◌+◌, ◌<◌, ◌≤◌, ◌==◌, ◌&&◌, Bool, true, false, List, length, get_or, inl, inr, refl, ap, subst, arith}
use Rattle.std.specs.List.{list_all}
use Rattle.std.specs.List.Sorted.{IsNonDecreasingBy}
use Rattle.std.proofs.lemmas.Bool.{cases_lt, eqb-true, ne_eqb}
use Rattle.std.proofs.lemmas.List.{get_or_default}
use Rattle.std.proofs.lemmas.List.Elements.{All-from_get_or}
use Rattle.std.proofs.lemmas.List.Folds.{list_any_none}
use Rattle.wiki_base.proofs.ListLaws.{all_at}
use Rattle.owl_eval.specs.Pairs.{is_paired}
use Rattle.owl_eval.proofs.Spanning.{place_paired}

and_off : (a b : Bool) → b ≡ false → (a && b) ≡ false
and_off true b h = h
and_off false b h = refl

-- the pair at a place ends in z
pub met : (own : List (ℕ × ℕ)) (x z k : ℕ) (d : ℕ × ℕ) → list_all (λ p. p.0 == x) own ≡ true → k < length own → (get_or own k d).1 ≡ z
    → is_paired own x z ≡ true
met own x z k d begins lt same =
    subst (λ v. is_paired own x v ≡ true) same
    (subst (λ u. is_paired own u (get_or own k d).1 ≡ true) (eqb-true (get_or own k d).0 x (all_at (λ p. p.0 == x) own k d begins lt))
    (place_paired own k d lt))

-- those before a place end below z, and those from there on above it
pub missed : (own : List (ℕ × ℕ)) (x z k : ℕ) → IsNonDecreasingBy (λ p. p.1) own
    → ((j : ℕ) (d : ℕ × ℕ) → j < k → (get_or own j d).1 < z) → ((d : ℕ × ℕ) → k < length own → z < (get_or own k d).1) → is_paired own x z ≡ false
missed own x z k up below above =
    list_any_none (λ p. (p.0 == x) && (p.1 == z)) own (All-from_get_or (λ p. ((p.0 == x) && (p.1 == z)) ≡ false) own (0, 0) (λ j lt.
    and_off ((get_or own j (0, 0)).0 == x) ((get_or own j (0, 0)).1 == z) (ne_eqb (get_or own j (0, 0)).1 z (λ same. elim (cases_lt j k) [
      | inl less ↦ omega (arith, same, below j (0, 0) less)
      | inr most ↦ omega (arith, same, above (0, 0) (omega (arith, lt, most)), up k j (0, 0) most lt)
    ]))))

module _ (own others : List (ℕ × ℕ)) (place next i : ℕ) (e : ℕ × ℕ) (here : i < length others)
    (passed : (k j : ℕ) (d f : ℕ × ℕ) → k < place → i ≤ j → j < length others → (get_or own k d).1 < (get_or others j f).1)
    (below : (k : ℕ) (d : ℕ × ℕ) → place ≤ k → k < next → (get_or own k d).1 < (get_or others i e).1) where
  -- what is passed at one of the others ends below it, and below each behind it
  behind : (k : ℕ) (d : ℕ × ℕ) → k < next → (get_or own k d).1 < (get_or others i e).1
  behind k d low = elim (cases_lt k place) [
    | inl less ↦ passed k i d e less (omega arith) here
    | inr most ↦ below k d most low
  ]

  pub passed_more : IsNonDecreasingBy (λ p. p.1) others → (k j : ℕ) (d f : ℕ × ℕ) → k < next → i + 1 ≤ j → j < length others
      → (get_or own k d).1 < (get_or others j f).1
  passed_more up k j d f low from high =
      let same : (get_or others j e).1 ≡ (get_or others j f).1 = ap (λ p. p.1) (get_or_default others j e f high) in
      let later : (get_or others i e).1 ≤ (get_or others j e).1 = up i j e (omega (arith, from)) high in
      omega (arith, behind k d low, later, same)

  -- where the walk stops, the end is there or isn't
  pub missed_at : (x : ℕ) → IsNonDecreasingBy (λ p. p.1) own → ((d : ℕ × ℕ) → next < length own → (get_or others i e).1 ≤ (get_or own next d).1)
      → ((d : ℕ × ℕ) → next < length own → (get_or own next d).1 ≡ (get_or others i e).1 → ⊥) → is_paired own x (get_or others i e).1 ≡ false
  missed_at x up there other =
      missed own x (get_or others i e).1 next up behind (λ d lt. elim (cases_lt (get_or others i e).1 (get_or own next d).1) [
        | inl less ↦ less
        | inr most ↦ absurd (other d lt (omega (arith, there d lt, most)))
      ])
