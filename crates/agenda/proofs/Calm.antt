-- A clash after a step is where the step changed something.
use Rattle.std.proofs.Common.{◌≡◌, ℕ, zero, suc, ◌<◌, ◌||◌, Bool, true, false, List, [], ◌∷◌, length, Option, Some, None, subst, refl, ap, inl, inr, arith}
use Rattle.std.specs.List.{list_any}
use Rattle.std.specs.Option.{option_map_or}
use Rattle.std.proofs.lemmas.Bool.{cases_Bool, cases_lt, or_cases, or_left, or_right, or_parts, or_from, false_from_ne_true}
use Rattle.std.proofs.lemmas.Option.{slice_get_past}
use Rattle.wiki_base.proofs.BoolLaws.{not_both}
use Rattle.tableau_rules.proofs.Reaching.{some_below_fails}
use Rattle.logic_terms.specs.Concept.{Concept, Everything, Atomic, ComplementOf}
use Rattle.logic_terms.specs.Meaning.{some_below}
use Rattle.logic_terms.specs.Parts.{word_part, complement_part, value_part}
use Rattle.logic_terms.specs.Same.{same_concept, has_concept}
use Rattle.logic_terms.specs.Theory.{Theory}
use Rattle.logic_terms.proofs.Places.{some_below_passes}
use Rattle.tableau_rules.specs.Clashes.{passes, are_joined, clashes_at, value_clashes, has_clash}
use Rattle.tableau_rules.specs.Graph.{Graph, label_at}
use Rattle.tableau_rules.specs.Neighbours.{node_of, is_neighbour}
use Rattle.agenda.proofs.Changes.{Changes}

passes_more : {X : Type 0} (o : Option X) (p q : X → Bool) → ((x : X) → p x ≡ true → q x ≡ true) → passes o p ≡ true → passes o q ≡ true
passes_more None p q up h = h
passes_more (Some x) p q up h = up x h

any_more : {X : Type 0} (p q : X → Bool) → ((x : X) → p x ≡ true → q x ≡ true) → (xs : List X) → list_any p xs ≡ true → list_any q xs ≡ true
any_more p q up [] h = h
any_more p q up (x ∷ xs) h = elim (or_cases (p x) (list_any p xs) h) [
  | inl here ↦ or_left (q x) (list_any q xs) (up x here)
  | inr later ↦ or_right (q x) (list_any q xs) (any_more p q up xs later)
]

all_fail : (n : ℕ) (test : ℕ → Bool) → ((x : ℕ) → x < n → test x ≡ false) → some_below n test ≡ false
all_fail zero test each = refl
all_fail (suc n) test each = or_from (test n) (some_below n test) (each n (omega arith)) (all_fail n test (λ x lt. each x (omega arith)))

-- whether a node has a clash
abbrev pub is_hit : Theory → Graph → ℕ → Bool
is_hit k g x = list_any (clashes_at k g x) (label_at g x)

pub hit_clash : (k : Theory) (g : Graph) (x : ℕ) → is_hit k g x ≡ true → has_clash k g ≡ true
hit_clash k g x h = elim (cases_lt x (length g.nodes)) [
  | inl lt ↦ or_right (list_any (λ d. are_joined k d.0 d.1) k.differences) (some_below (length g.nodes) (is_hit k g))
      (some_below_passes (is_hit k g) x (length g.nodes) lt h)
  | inr past ↦ (let none : is_hit k g x ≡ false = ap (λ o. list_any (clashes_at k g x) (option_map_or (λ v. v.label) o [])) (slice_get_past g.nodes x past) in
      absurd (not_both h none))
]

module _ (k : Theory) (g h : Graph) (grows joins : ℕ → Bool) (change : Changes k g h grows joins) (calm : has_clash k g ≡ false) where
  parts : (list_any (λ d. are_joined k d.0 d.1) k.differences ≡ false) × (some_below (length g.nodes) (is_hit k g) ≡ false)
  parts = or_parts (list_any (λ d. are_joined k d.0 d.1) k.differences) (some_below (length g.nodes) (is_hit k g)) calm

  -- where nothing changed
  clash_before : (x : ℕ) → grows x ≡ false → joins x ≡ false → (c : Concept) → clashes_at k h x c ≡ true → clashes_at k g x c ≡ true
  clash_before x still apart c hit = elim (or_cases (passes (word_part c) (λ word. has_concept (label_at h x) (ComplementOf (Atomic word))))
      (same_concept c (ComplementOf Everything) || value_clashes k c (λ role y. is_neighbour k h role x y)) hit) [
        | inl pair ↦ or_left (passes (word_part c) (λ word. has_concept (label_at g x) (ComplementOf (Atomic word))))
            (same_concept c (ComplementOf Everything) || value_clashes k c (λ role y. is_neighbour k g role x y))
            (subst (λ l. passes (word_part c) (λ word. has_concept l (ComplementOf (Atomic word))) ≡ true) (change.labels x still) pair)
        | inr rest ↦ or_right (passes (word_part c) (λ word. has_concept (label_at g x) (ComplementOf (Atomic word))))
            (same_concept c (ComplementOf Everything) || value_clashes k c (λ role y. is_neighbour k g role x y))
            (elim (or_cases (same_concept c (ComplementOf Everything)) (value_clashes k c (λ role y. is_neighbour k h role x y)) rest) [
              | inl nothing ↦ or_left (same_concept c (ComplementOf Everything)) (value_clashes k c (λ role y. is_neighbour k g role x y)) nothing
              | inr value ↦ or_right (same_concept c (ComplementOf Everything)) (value_clashes k c (λ role y. is_neighbour k g role x y))
                  (passes_more (complement_part c) (λ d. passes (value_part d) (λ v. passes (node_of k v.1) (λ y. is_neighbour k h v.0 x y)))
                  (λ d. passes (value_part d) (λ v. passes (node_of k v.1) (λ y. is_neighbour k g v.0 x y)))
                  (λ d. passes_more (value_part d) (λ v. passes (node_of k v.1) (λ y. is_neighbour k h v.0 x y))
                  (λ v. passes (node_of k v.1) (λ y. is_neighbour k g v.0 x y))
                  (λ v. passes_more (node_of k v.1) (λ y. is_neighbour k h v.0 x y) (λ y. is_neighbour k g v.0 x y) (λ y. change.only v.0 x y apart))) value)
            ])
      ]

  still_calm : (x : ℕ) → x < length h.nodes → grows x ≡ false → joins x ≡ false → is_hit k h x ≡ false
  still_calm x lt still apart = elim (cases_lt x (length g.nodes)) [
    | inl old ↦ false_from_ne_true (is_hit k h x) (λ hit. not_both
        (any_more (clashes_at k h x) (clashes_at k g x) (clash_before x still apart) (label_at g x)
        (subst (λ l. list_any (clashes_at k h x) l ≡ true) (change.labels x still) hit))
        (some_below_fails (length g.nodes) (is_hit k g) parts.1 x old))
    | inr new ↦ absurd (not_both (change.fresh x new lt) still)
  ]

  -- where no changed node has a clash
  pub calm_after : ((x : ℕ) → (grows x || joins x) ≡ true → is_hit k h x ≡ false) → has_clash k h ≡ false
  calm_after each =
      or_from (list_any (λ d. are_joined k d.0 d.1) k.differences) (some_below (length h.nodes) (is_hit k h)) parts.0
      (all_fail (length h.nodes) (is_hit k h) (λ x lt. elim (cases_Bool (grows x || joins x)) [
        | inl changed ↦ each x changed
        | inr same ↦ (let two = or_parts (grows x) (joins x) same in still_calm x lt two.0 two.1)
      ]))
