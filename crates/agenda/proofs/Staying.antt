-- A node that rests goes on resting where no node that it waits for grows.
use Rattle.std.proofs.Common.{◌≡◌, ℕ, zero, suc, ◌<◌, ◌≤◌, ◌&&◌, ◌||◌, ◌⊎◌, Bool, true, false, List, [], ◌∷◌, length, cond, Option, Some, None, slice_get, refl, sym, ap, ◌∙◌, inl, inr, arith}
use Rattle.std.specs.Prelude.{not, nat_lt}
use Rattle.std.specs.List.{list_any}
use Rattle.std.specs.Option.{option_and_then, option_or}
use Rattle.std.proofs.lemmas.Bool.{cases_Bool, cases_lt, and_parts, and_from, false_from_ne_true, not-true}
use Rattle.wiki_base.specs.declared.numbers.WordId.{WordId}
use Rattle.wiki_base.proofs.BoolLaws.{not_both}
use Rattle.logic_terms.specs.declared.expressions.Role.{Role}
use Rattle.logic_terms.specs.Concept.{Concept}
use Rattle.logic_terms.specs.Meaning.{some_below}
use Rattle.logic_terms.specs.Parts.{word_part, intersection_part, union_part, some_part, all_part, value_part}
use Rattle.logic_terms.specs.Same.{has_concept}
use Rattle.logic_terms.specs.Theory.{Theory}
use Rattle.logic_terms.proofs.Places.{some_below_passes}
use Rattle.tableau_rules.specs.declared.step.Rule.{Rule}
use Rattle.tableau_rules.specs.declared.step.Rule.TheVariants as rule
use Rattle.tableau_rules.specs.First.{first_below, where_true}
use Rattle.tableau_rules.specs.Graph.{Graph, label_at, class_at}
use Rattle.tableau_rules.specs.Neighbours.{node_of, is_neighbour}
use Rattle.tableau_rules.specs.Blocking.{ancestors, is_anonymous, same_classes, has_twin, blocks, is_indirectly_blocked, is_blocked}
use Rattle.tableau_rules.specs.Rules.{lacks_some, lacks_all, unfoldings_of, open_members, serves, needs, row, site, site_at}
use Rattle.tableau_rules.proofs.Firsts.{first_none, where_not, where_none}
use Rattle.tableau_bounds.proofs.Stepping.{ParentsBelow}
use Rattle.tableau_bounds.proofs.Ways.{ancestors_same}
use Rattle.agenda.proofs.Changes.{Changes}
use Rattle.tableau_rules.specs.Carrying.{role_of_all, along, carriers}
use Rattle.tableau_rules.proofs.Carriers.{all_fail}
use Rattle.agenda.specs.Steps.{reaches_out}
use Rattle.agenda.specs.Resting.{way_up, waits_for, RestsBy, IsResting}
use Rattle.agenda.proofs.Idle.{row_site}

-- each neighbour is a node
abbrev pub NeighboursThere : Theory → Graph → Type 0
NeighboursThere k g = (role : Role) (y z : ℕ) → is_neighbour k g role y z ≡ true → z < length g.nodes

module _ {X : Type 0} where
  none_parts : (a b : Option X) → option_or a b ≡ None → (a ≡ None) × (b ≡ None)
  none_parts None b e = (refl, e)
  none_parts (Some x) b e = cc

  pub none_below : (n : ℕ) (f : ℕ → Option X) → first_below n f ≡ None → (y : ℕ) → y < n → f y ≡ None
  none_below zero f h y lt = absurd (omega arith)
  none_below (suc n) f h y lt =
      let parts = none_parts (first_below n f) (f n) h in
      elim (cases_lt y n) [
        | inl less ↦ none_below n f parts.0 y less
        | inr past ↦ (let same : n ≡ y = omega arith in ap f (sym same) ∙ parts.1)
      ]

still_fails : (a m n : Bool) → (not a && not m) ≡ false → (m ≡ true → n ≡ true) → (not a && not n) ≡ false
still_fails true m n h up = refl
still_fails false true n h up = ap not (up refl)
still_fails false false n h up = cc

fails_second : (a n : Bool) → n ≡ true → (not a && not n) ≡ false
fails_second true n h = refl
fails_second false n h = ap not h

fails_first : (a n : Bool) → a ≡ true → (not a && not n) ≡ false
fails_first a n h = ap (λ b. not b && not n) h

module _ (k : Theory) (g h : Graph) (grows joins : ℕ → Bool) (change : Changes k g h grows joins) (down : ParentsBelow g) (there : NeighboursThere k g)
    (waits : ℕ → ℕ → Bool) (x : ℕ) (calm : (z : ℕ) → waits z x ≡ true → grows z ≡ false) where
  same_label : (z : ℕ) → waits z x ≡ true → label_at h z ≡ label_at g z
  same_label z w = change.labels z (calm z w)

  twin_same : (w : ℕ) → label_at h w ≡ label_at g w → (zs : List ℕ) → waits_for waits x zs ≡ true → has_twin k h w zs ≡ has_twin k g w zs
  twin_same w same [] all = refl
  twin_same w same (z ∷ zs) all =
      let parts = and_parts (waits z x) (waits_for waits x zs) all in
      ap (λ l. (is_anonymous k z && same_classes l (label_at h z)) || has_twin k h w zs) same
      ∙ (ap (λ l. (is_anonymous k z && same_classes (label_at g w) l) || has_twin k h w zs) (same_label z parts.0)
      ∙ ap (λ b. (is_anonymous k z && same_classes (label_at g w) (label_at g z)) || b) (twin_same w same zs parts.1))

  blocks_same : (zs : List ℕ) → waits_for waits x zs ≡ true → blocks k h zs ≡ blocks k g zs
  blocks_same [] all = refl
  blocks_same (z ∷ zs) all =
      let parts = and_parts (waits z x) (waits_for waits x zs) all in
      ap (λ t. (is_anonymous k z && (t && not (blocks k h zs))) || blocks k h zs) (twin_same z (same_label z parts.0) zs parts.1)
      ∙ ap (λ b. (is_anonymous k z && (has_twin k g z zs && not b)) || b) (blocks_same zs parts.1)

  way_same : (y : ℕ) → y < length g.nodes → way_up h y ≡ way_up g y
  way_same y lt = ap (λ zs. y ∷ zs) (ancestors_same g h down change.parents y lt)

  pub indirectly_same : (y : ℕ) → y < length g.nodes → waits_for waits x (way_up g y) ≡ true → is_indirectly_blocked k h y ≡ is_indirectly_blocked k g y
  indirectly_same y lt all =
      ap (blocks k h) (ancestors_same g h down change.parents y lt)
      ∙ blocks_same (ancestors g y) (and_parts (waits y x) (waits_for waits x (ancestors g y)) all).1

  pub blocked_same : (y : ℕ) → y < length g.nodes → waits_for waits x (way_up g y) ≡ true → is_blocked k h y ≡ is_blocked k g y
  blocked_same y lt all =
      let parts = and_parts (waits y x) (waits_for waits x (ancestors g y)) all in
      ap (λ zs. (is_anonymous k y && (has_twin k h y zs && not (blocks k h zs))) || blocks k h zs) (ancestors_same g h down change.parents y lt)
      ∙ (ap (λ t. (is_anonymous k y && (t && not (blocks k h (ancestors g y)))) || blocks k h (ancestors g y))
      (twin_same y (same_label y parts.0) (ancestors g y) parts.1)
      ∙ ap (λ b. (is_anonymous k y && (has_twin k g y (ancestors g y) && not b)) || b) (blocks_same (ancestors g y) parts.1))

  module _ (lt : x < length g.nodes) (own : waits_for waits x (way_up g x) ≡ true) where
    label_x : label_at h x ≡ label_at g x
    label_x = same_label x (and_parts (waits x x) (waits_for waits x (ancestors g x)) own).0

    -- by a rule that looks at labels alone
    value_stays : (o : Option (Role × WordId))
        → option_and_then {U = ℕ} (λ p. option_and_then {U = ℕ} (λ y. where_true (not (is_blocked k g x) && not (is_neighbour k g p.0 x y)) 0) (node_of k p.1))
        o ≡ None → option_and_then {U = ℕ}
        (λ p. option_and_then {U = ℕ} (λ y. where_true (not (is_blocked k h x) && not (is_neighbour k h p.0 x y)) 0) (node_of k p.1)) o ≡ None
    value_stays None e = refl
    value_stays (Some p) e = go (node_of k p.1) e
      where
        go : (o : Option ℕ) → option_and_then {U = ℕ} (λ y. where_true (not (is_blocked k g x) && not (is_neighbour k g p.0 x y)) 0) o ≡ None
            → option_and_then {U = ℕ} (λ y. where_true (not (is_blocked k h x) && not (is_neighbour k h p.0 x y)) 0) o ≡ None
        go None i = refl
        go (Some y) i =
            where_not (not (is_blocked k h x) && not (is_neighbour k h p.0 x y)) 0
            (ap (λ b. not b && not (is_neighbour k h p.0 x y)) (blocked_same x lt own)
            ∙ still_fails (is_blocked k g x) (is_neighbour k g p.0 x y) (is_neighbour k h p.0 x y)
            (where_none (not (is_blocked k g x) && not (is_neighbour k g p.0 x y)) 0 i) (change.edges p.0 x y))

    all_stays : joins x ≡ false → (p : Role × Concept)
        → ((y : ℕ) → is_neighbour k g p.0 x y ≡ true
        → (has_concept (label_at g y) p.1 ≡ true) ⊎ ((is_indirectly_blocked k g y ≡ true) × (waits_for waits x (way_up g y) ≡ true))) → (y : ℕ)
        → needs k h p.0 p.1 x y ≡ false
    all_stays apart p each y = false_from_ne_true (needs k h p.0 p.1 x y) (λ t.
        let one = and_parts (is_neighbour k h p.0 x y) (not (is_indirectly_blocked k h y) && not (has_concept (label_at h y) p.1)) t in
        let two = and_parts (not (is_indirectly_blocked k h y)) (not (has_concept (label_at h y) p.1)) one.1 in
        let before = change.only p.0 x y apart one.0 in
        elim (each y before) [
          | inl has ↦ not_both (change.more y p.1 has) (not-true (has_concept (label_at h y) p.1) two.1)
          | inr stops ↦ not_both (indirectly_same y (there p.0 x y before) stops.1 ∙ stops.0) (not-true (is_indirectly_blocked k h y) two.0)
        ])

    some_stays : (p : Role × Concept) (y : ℕ) → y < length g.nodes → serves k g p.0 p.1 x y ≡ true → waits_for waits x (way_up g y) ≡ true
        → serves k h p.0 p.1 x y ≡ true
    some_stays p y below served all =
        let one = and_parts (is_neighbour k g p.0 x y) (not (is_indirectly_blocked k g y) && has_concept (label_at g y) p.1) served in
        let two = and_parts (not (is_indirectly_blocked k g y)) (has_concept (label_at g y) p.1) one.1 in
        and_from (is_neighbour k h p.0 x y) (not (is_indirectly_blocked k h y) && has_concept (label_at h y) p.1) (change.edges p.0 x y one.0)
        (and_from (not (is_indirectly_blocked k h y)) (has_concept (label_at h y) p.1) (ap not (indirectly_same y below all) ∙ two.0) (change.more y p.1 two.1))

    through : (a b c : ℕ) → a < b → b ≤ c → a < c
    through a b c l m = omega arith

    row_stays : (r : Rule) → (reaches_out r ≡ true → joins x ≡ false) → RestsBy k g waits x r → (place : ℕ) (c : Concept) → class_at g x place ≡ Some c
        → is_indirectly_blocked k g x ≡ false → row k g r x c ≡ None → row k h r x c ≡ None
    row_stays rule.And apart rests place c at free none =
        ap (λ l. option_and_then {U = ℕ} (λ cs. where_true (lacks_some l cs) 0) (intersection_part c)) label_x ∙ none
    row_stays rule.Unfold apart rests place c at free none =
        ap (λ l. option_and_then {U = ℕ} (λ word. where_true (lacks_some l (unfoldings_of k word)) 0) (word_part c)) label_x ∙ none
    row_stays rule.All apart rests place c at free none = go (all_part c) refl
      where
        go : (o : Option (Role × Concept)) → all_part c ≡ o
            → option_and_then {U = ℕ} (λ p. first_below (length h.nodes) (λ y. where_true (needs k h p.0 p.1 x y) y)) o ≡ None
        go None part = refl
        go (Some p) part = first_none (length h.nodes) (λ y. where_true (needs k h p.0 p.1 x y) y)
            (λ y below. where_not (needs k h p.0 p.1 x y) y (elim (rests place c p at part) [
              | inl stops ↦ absurd (not_both stops free)
              | inr each ↦ all_stays (apart refl) p each y
            ]))
    row_stays rule.Trans apart rests place c at free none = go (role_of_all c) refl
      where
        go : (o : Option Role) → role_of_all c ≡ o
            → option_and_then {U = ℕ} (λ role. first_below (length h.nodes)
            (λ y. where_true (list_any (λ t. needs k h t (along t c) x y) (carriers k role)) y)) o ≡ None
        go None part = refl
        go (Some role) part = first_none (length h.nodes) (λ y. where_true (list_any (λ t. needs k h t (along t c) x y) (carriers k role)) y)
            (λ y below. where_not (list_any (λ t. needs k h t (along t c) x y) (carriers k role)) y (elim (rests place c role at part) [
              | inl stops ↦ absurd (not_both stops free)
              | inr each ↦ all_fail (λ t. needs k h t (along t c) x y) (carriers k role)
                  (λ t carries. all_stays (apart refl) (t, along t c) (λ z near. each t carries z near) y)
            ]))
    row_stays rule.Value apart rests place c at free none = value_stays (value_part c) none
    row_stays rule.Unit apart rests place c at free none =
        ap (λ l. option_and_then {U = ℕ} (λ cs. where_true (lacks_all l cs && nat_lt (length (open_members l cs)) 2) 0) (union_part c)) label_x ∙ none
    row_stays rule.Or apart rests place c at free none = ap (λ l. option_and_then {U = ℕ} (λ cs. where_true (lacks_all l cs) 0) (union_part c)) label_x ∙ none
    row_stays rule.Some apart rests place c at free none = go (some_part c) refl
      where
        go : (o : Option (Role × Concept)) → some_part c ≡ o
            → option_and_then {U = ℕ} (λ p. where_true (not (is_blocked k h x) && not (some_below (length h.nodes) (serves k h p.0 p.1 x))) 0) o ≡ None
        go None part = refl
        go (Some p) part = where_not (not (is_blocked k h x) && not (some_below (length h.nodes) (serves k h p.0 p.1 x))) 0 (elim (rests place c p at part) [
          | inl stops ↦ fails_first (is_blocked k h x) (some_below (length h.nodes) (serves k h p.0 p.1 x)) (blocked_same x lt own ∙ stops)
          | inr (y, below, served, all) ↦ fails_second (is_blocked k h x) (some_below (length h.nodes) (serves k h p.0 p.1 x))
              (some_below_passes (serves k h p.0 p.1 x) y (length h.nodes) (through y (length g.nodes) (length h.nodes) below change.count)
              (some_stays p y below served all))
        ])

    site_stays : (r : Rule) → (reaches_out r ≡ true → joins x ≡ false) → RestsBy k g waits x r → (place : ℕ) (c : Concept) → class_at g x place ≡ Some c
        → site k g r x c ≡ None → site k h r x c ≡ None
    site_stays r apart rests place c at none = elim (cases_Bool (is_indirectly_blocked k g x)) [
      | inl stops ↦ ap (λ b. cond b None (row k h r x c)) (indirectly_same x lt own ∙ stops)
      | inr free ↦ row_site k h x r c (row_stays r apart rests place c at free (sym (ap (λ b. cond b None (row k g r x c)) free) ∙ none))
    ]

    none_stays : (r : Rule) → (reaches_out r ≡ true → joins x ≡ false) → IsResting k g waits r x → (place : ℕ) → site_at k h r x place ≡ None
    none_stays r apart rests place = ap (λ l. option_and_then (site k h r x) (slice_get l place)) label_x ∙ go (class_at g x place) refl (rests.none place)
      where
        go : (o : Option Concept) → class_at g x place ≡ o → option_and_then (site k g r x) o ≡ None → option_and_then (site k h r x) o ≡ None
        go None at none = refl
        go (Some c) at none = site_stays r apart rests.others place c at none

    -- where it goes on waiting
    module _ (later : ℕ → ℕ → Bool) (kept : (z : ℕ) → grows z ≡ false → waits z x ≡ true → later z x ≡ true) where
      still_waits : (zs : List ℕ) → waits_for waits x zs ≡ true → waits_for later x zs ≡ true
      still_waits [] all = refl
      still_waits (z ∷ zs) all =
          let parts = and_parts (waits z x) (waits_for waits x zs) all in
          and_from (later z x) (waits_for later x zs) (kept z (calm z parts.0) parts.0) (still_waits zs parts.1)

      still_up : (y : ℕ) → y < length g.nodes → waits_for waits x (way_up g y) ≡ true → waits_for later x (way_up h y) ≡ true
      still_up y below all = ap (waits_for later x) (way_same y below) ∙ still_waits (way_up g y) all

      others_stay : (r : Rule) → (reaches_out r ≡ true → joins x ≡ false) → RestsBy k g waits x r → RestsBy k h later x r
      others_stay rule.And apart rests = tt
      others_stay rule.Unfold apart rests = tt
      others_stay rule.All apart rests = λ place c p at part. elim (rests place c p (sym (ap (λ l. slice_get l place) label_x) ∙ at) part) [
        | inl stops ↦ inl (indirectly_same x lt own ∙ stops)
        | inr each ↦ inr (λ y near. let before = change.only p.0 x y (apart refl) near in elim (each y before) [
          | inl has ↦ inl (change.more y p.1 has)
          | inr stops ↦ (let below = there p.0 x y before in inr (indirectly_same y below stops.1 ∙ stops.0, still_up y below stops.1))
        ])
      ]
      others_stay rule.Trans apart rests = λ place c role at part. elim (rests place c role (sym (ap (λ l. slice_get l place) label_x) ∙ at) part) [
        | inl stops ↦ inl (indirectly_same x lt own ∙ stops)
        | inr each ↦ inr (λ t carries y near. let before = change.only t x y (apart refl) near in elim (each t carries y before) [
          | inl has ↦ inl (change.more y (along t c) has)
          | inr stops ↦ (let below = there t x y before in inr (indirectly_same y below stops.1 ∙ stops.0, still_up y below stops.1))
        ])
      ]
      others_stay rule.Value apart rests = tt
      others_stay rule.Unit apart rests = tt
      others_stay rule.Or apart rests = tt
      others_stay rule.Some apart rests = λ place c p at part. elim (rests place c p (sym (ap (λ l. slice_get l place) label_x) ∙ at) part) [
        | inl stops ↦ inl (blocked_same x lt own ∙ stops)
        | inr (y, below, served, all) ↦ inr
            (y, through y (length g.nodes) (length h.nodes) below change.count, some_stays p y below served all, still_up y below all)
      ]

      pub rest_stays : (r : Rule) → (reaches_out r ≡ true → joins x ≡ false) → IsResting k g waits r x → IsResting k h later r x
      rest_stays r apart rests = record {
        none = none_stays r apart rests;
        own = still_up x lt own;
        others = others_stay r apart rests.others;
      }
