-- What runs of pairs say of all pairs.
use Rattle.std.proofs.Common.{◌≡◌, ℕ, ◌+◌, ◌==◌, ◌<◌, ◌≤◌, ◌&&◌, ◌||◌, ◌⊎◌, inl, inr, Bool, true, false, List, [], ◌∷◌, length, get_or, drop, filter, IsSorted, refl, sym, ap, subst, ◌∙◌, arith}
use Rattle.std.specs.Prelude.{nat_lt}
use Rattle.std.specs.List.{list_any, list_all}
use Rattle.std.specs.Ordering.{is_lt}
use Rattle.std.proofs.lemmas.Bool.{and_from, and_parts, eqb-true, ltb-true, or_cases}
use Rattle.std.specs.List.Sorted.{IsNonDecreasingBy}
use Rattle.std.proofs.lemmas.Bool.Decides.{nat_tests}
use Rattle.std.proofs.lemmas.Cmp.{nat_cmp_total, on_total, then_total}
use Rattle.std.proofs.lemmas.List.Sorted.{ranks_by, IsNonDecreasingBy-from_all_adjacent}
use Rattle.std.proofs.lemmas.List.Kept.{IsSortedBy-filter}
use Rattle.wiki_base.proofs.ListLaws.{all_at, list_any-filter}
use Rattle.logic_terms.specs.Meaning.{implies}
use Rattle.owl_eval.specs.Leads.{spans, successor_count, IsRelayed, IsLed, IsLedBy, AreRelayed}
use Rattle.owl_eval.specs.Pairs.{pair_cmp, is_paired}
use Rattle.owl_eval.proofs.Filters.{list_all-filter}
use Rattle.owl_eval.proofs.Spanning.{at_places, place_paired, drop_paired, first_met}

-- a run of sorted pairs is sorted
pub run_sorted : (x : ℕ) (ps : List (ℕ × ℕ)) → IsSorted pair_cmp ps → IsSorted pair_cmp (filter (λ p. p.0 == x) ps)
run_sorted x ps up =
    IsSortedBy-filter (λ p q. is_lt (pair_cmp p q))
    (ranks_by (then_total (on_total (λ (p : ℕ × ℕ). p.0) nat_cmp_total) (on_total (λ (p : ℕ × ℕ). p.1) nat_cmp_total)) (λ p. p))
    (λ p. p.0 == x) ps up

and_twice : (a b : Bool) → (a && (a && b)) ≡ (a && b)
and_twice true b = refl
and_twice false b = refl

-- the pairs of an element are those of its run
pub in_run : (x z : ℕ) (ps : List (ℕ × ℕ)) → is_paired (filter (λ p. p.0 == x) ps) x z ≡ is_paired ps x z
in_run x z ps =
    list_any-filter (λ p. (p.0 == x) && (p.1 == z)) (λ p. p.0 == x) ps
    ∙ ap (λ t. list_any t ps) (λ j p. and_twice (p.0 == x) (p.1 == z) j)

-- what is said of the runs of a pair's two elements is what is said of all pairs
pub by_runs : (x y : ℕ) (ps : List (ℕ × ℕ))
    → list_all (λ q. is_paired (filter (λ p. p.0 == x) ps) x q.1) (filter (λ p. p.0 == y) ps) ≡ list_all (λ q. implies (q.0 == y) (is_paired ps x q.1)) ps
by_runs x y ps =
    list_all-filter (λ q. is_paired (filter (λ p. p.0 == x) ps) x q.1) (λ p. p.0 == y) ps
    ∙ ap (λ t. list_all t ps) (λ j q. implies (q.0 == y) (in_run x q.1 ps j))

-- that an element is related to each successor of another is told by the runs of the two
pub told : (ps own next : List (ℕ × ℕ)) (x y : ℕ) (r : Bool) → own ≡ filter (λ q. q.0 == x) ps → next ≡ filter (λ q. q.0 == y) ps
    → r ≡ list_all (λ q. is_paired own x q.1) next → spans ps x y ≡ r
told ps own next x y r one two h = sym (h ∙ ((λ j. list_all (λ q. is_paired (one j) x q.1) (two j)) ∙ by_runs x y ps))

-- an element that comes before another, and the run of that
pub relay_of : (ps own next : List (ℕ × ℕ)) (x y : ℕ) → own ≡ filter (λ q. q.0 == x) ps → next ≡ filter (λ q. q.0 == y) ps
    → spans ps x y ≡ true → (nat_lt (length next) (length own) || ((length next == length own) && nat_lt y x)) ≡ true → AreRelayed ps x y next
relay_of ps own next x y one two spanned before = λ z yz. record {
  relay = y;
  before = subst (λ n. (n < successor_count ps x) ⊎ ((n ≡ successor_count ps x) × (y < x))) (ap length two)
      (subst (λ n. (length next < n) ⊎ ((length next ≡ n) × (y < x))) (ap length one) (counted before));
  spanned = spanned;
  leads = sym (in_run y z ps) ∙ (ap (λ run. is_paired run y z) (sym two) ∙ yz);
}
  where
    counted : (nat_lt (length next) (length own) || ((length next == length own) && nat_lt y x)) ≡ true
        → (length next < length own) ⊎ ((length next ≡ length own) × (y < x))
    counted h = elim (or_cases (nat_lt (length next) (length own)) ((length next == length own) && nat_lt y x) h) [
      | inl fewer ↦ inl (ltb-true (length next) (length own) fewer)
      | inr same ↦
          let parts = and_parts (length next == length own) (nat_lt y x) same in
          inr (eqb-true (length next) (length own) parts.0, ltb-true y x parts.1)
    ]

-- what holds of each successor that the run of an element tells holds of all
pub own_led : (ps own : List (ℕ × ℕ)) (x : ℕ) → own ≡ filter (λ q. q.0 == x) ps
    → ((k : ℕ) (d : ℕ × ℕ) → k < length own → IsLedBy ps x (get_or own k d).1) → IsLed ps x
own_led ps own x one each y xy =
    at_places (λ u v. IsLedBy ps x v) own each x y (ap (λ run. is_paired run x y) one ∙ (in_run x y ps ∙ xy))

implies_self : (b : Bool) → implies b b ≡ true
implies_self true = refl
implies_self false = refl

-- the pairs of the run begin with the element, and their ends rise
pub run_begins : (ps own : List (ℕ × ℕ)) (x : ℕ) → own ≡ filter (λ q. q.0 == x) ps → list_all (λ q. q.0 == x) own ≡ true
run_begins ps own x one =
    ap (list_all (λ q. q.0 == x)) one ∙ (list_all-filter (λ q. q.0 == x) (λ q. q.0 == x) ps ∙ each ps)
  where
    each : (qs : List (ℕ × ℕ)) → list_all (λ q. implies (q.0 == x) (q.0 == x)) qs ≡ true
    each [] = refl
    each (q ∷ qs) =
        and_from (implies (q.0 == x) (q.0 == x)) (list_all (λ r. implies (r.0 == x) (r.0 == x)) qs) (implies_self (q.0 == x)) (each qs)

second_rises : (p q : ℕ × ℕ) → p.0 ≡ q.0 → is_lt (pair_cmp q p) ≡ false → p.1 ≤ q.1
second_rises p q same h = grind (arith, nat_tests)

pub ends_rise : (ps own : List (ℕ × ℕ)) (x : ℕ) → IsSorted pair_cmp ps → own ≡ filter (λ q. q.0 == x) ps → IsNonDecreasingBy (λ q. q.1) own
ends_rise ps own x up one =
    let sorted : IsSorted pair_cmp own = subst (IsSorted pair_cmp) (sym one) (run_sorted x ps up) in
    IsNonDecreasingBy-from_all_adjacent (λ q. q.1) own (λ k d lt.
    second_rises (get_or own k d) (get_or own (k + 1) d)
    (first_is k d (omega (arith, lt)) ∙ sym (first_is (k + 1) d lt)) (sorted k d (omega arith) lt))
  where
    first_is : (k : ℕ) (d : ℕ × ℕ) → k < length own → (get_or own k d).0 ≡ x
    first_is k d lt = eqb-true (get_or own k d).0 x (all_at (λ q. q.0 == x) own k d (run_begins ps own x one) lt)

-- a pair of the run is one of all
pub own_paired : (ps own : List (ℕ × ℕ)) (x : ℕ) (k : ℕ) (d : ℕ × ℕ) → own ≡ filter (λ q. q.0 == x) ps → k < length own
    → is_paired ps x (get_or own k d).1 ≡ true
own_paired ps own x k d one lt =
    let p = get_or own k d in
    let begins : (p.0 == x) ≡ true = all_at (λ q. q.0 == x) own k d (run_begins ps own x one) lt in
    sym (in_run x p.1 ps) ∙ (ap (λ run. is_paired run x p.1) (sym one)
    ∙ subst (λ u. is_paired own u p.1 ≡ true) (eqb-true p.0 x begins) (place_paired own k d lt))

-- what is left of a relay's pairs, and its first one
pub relayed_left : (ps run left : List (ℕ × ℕ)) (x w k : ℕ) → AreRelayed ps x w run → left ≡ drop k run → AreRelayed ps x w left
relayed_left ps run left x w k known same = λ y h. known y (drop_paired k run w y (ap (λ l. is_paired l w y) (sym same) ∙ h))

pub relayed_first : (ps run left : List (ℕ × ℕ)) (x w y k : ℕ) → AreRelayed ps x w run → left ≡ drop k run → 0 < length left
    → ((d : ℕ × ℕ) → ((get_or left 0 d).0 ≡ w) × ((get_or left 0 d).1 ≡ y)) → IsRelayed ps x y
relayed_first ps run left x w y k known same some first = relayed_left ps run left x w k known same y (first_met left w y some first)
