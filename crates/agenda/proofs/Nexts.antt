-- The first step by a rule is at the least node that is due, and a node rests where no step applies.
use Rattle.std.proofs.Common.{◌≡◌, ℕ, ◌<◌, ◌≤◌, ◌&&◌, Bool, true, false, [], length, cond, Option, Some, None, refl, sym, ap, ◌∙◌, inl, inr, arith}
use Rattle.std.specs.Prelude.{not}
use Rattle.std.specs.Option.{option_and_then, option_map, option_map_or}
use Rattle.std.proofs.lemmas.Bool.{cases_Bool, cases_lt, or_right}
use Rattle.std.proofs.lemmas.Option.{slice_get_past}
use Rattle.wiki_base.proofs.BoolLaws.{not_both}
use Rattle.logic_terms.specs.Concept.{Concept}
use Rattle.logic_terms.specs.Meaning.{some_below}
use Rattle.logic_terms.specs.Same.{has_concept}
use Rattle.logic_terms.specs.Theory.{Theory}
use Rattle.tableau_rules.specs.declared.step.Rule.{Rule}
use Rattle.tableau_rules.specs.declared.step.Rule.TheVariants as rule
use Rattle.tableau_rules.specs.declared.step.Step.{Step}
use Rattle.tableau_rules.specs.First.{first_below, where_true}
use Rattle.std.specs.List.{list_any}
use Rattle.tableau_rules.specs.Carrying.{along, carriers}
use Rattle.tableau_rules.proofs.Carriers.{none_there}
use Rattle.tableau_rules.specs.Graph.{Graph, label_at, class_at}
use Rattle.tableau_rules.specs.Neighbours.{is_neighbour}
use Rattle.tableau_rules.specs.Blocking.{is_directly_blocked, is_indirectly_blocked, is_blocked}
use Rattle.tableau_rules.specs.Rules.{serves, needs, row, site, site_at, first_at, first_by}
use Rattle.tableau_rules.proofs.Firsts.{first_none, first_found, where_none}
use Rattle.agenda.specs.Resting.{RestsBy, IsResting, Fits, waits_for, way_up}
use Rattle.agenda.specs.Steps.{reaches_out, sprouts}
use Rattle.agenda.specs.Views.{AreWaitedFor, IsWaitedFor}
use Rattle.agenda.proofs.Idle.{idle, no_first}
use Rattle.agenda.proofs.Staying.{NeighboursThere, none_below}

module _ (k : Theory) (g : Graph) where
  -- no step at a node
  pub no_sites : (r : Rule) (x : ℕ) → first_at k g r x ≡ None → (place : ℕ) → site_at k g r x place ≡ None
  no_sites r x none place = elim (cases_lt place (length (label_at g x))) [
    | inl lt ↦ map_none (site_at k g r x place) (none_below (length (label_at g x)) (λ place. option_map (step_at place) (site_at k g r x place)) none place lt)
    | inr past ↦ ap (option_and_then (site k g r x)) (slice_get_past (label_at g x) place past)
  ]
    where
      step_at : ℕ → ℕ → Step
      step_at place y = record { rule = r; node = x; class = place; other = y }

      map_none : (o : Option ℕ) → option_map (step_at place) o ≡ None → o ≡ None
      map_none None e = refl
      map_none (Some y) e = cc

  first_node : (r : Rule) (x : ℕ) (s : Step) → first_at k g r x ≡ Some s → x < length g.nodes
  first_node r x s some = elim (cases_lt x (length g.nodes)) [
    | inl lt ↦ lt
    | inr past ↦
        let step_at : ℕ → ℕ → Step = λ place y. record { rule = r; node = x; class = place; other = y } in
        let empty : label_at g x ≡ [] = ap (λ o. option_map_or (λ v. v.label) o []) (slice_get_past g.nodes x past) in
        let none : first_at k g r x ≡ None = ap (λ l. first_below (length l) (λ place. option_map (step_at place) (site_at k g r x place))) empty in
        let never : None ≡ Some s = sym none ∙ some in
        cc
  ]

  module _ (r : Rule) (due : ℕ → Bool) (waits : ℕ → ℕ → Bool) (fits : Fits k g r due waits) where
    none_at : (y : ℕ) → y < length g.nodes → due y ≡ false → first_at k g r y ≡ None
    none_at y lt off = elim (fits y lt) [
      | inl on ↦ absurd (not_both on off)
      | inr (inl apart) ↦ no_first k g y r (idle k g y r apart)
      | inr (inr rests) ↦ no_first k g y r rests.none
    ]

    pub first_is : (x : ℕ) (s : Step) → ((q : ℕ) → due q ≡ true → x ≤ q) → first_at k g r x ≡ Some s → Some s ≡ first_by k g r
    first_is x s least some =
        let lt = first_node r x s some in
        sym (first_found (first_at k g r) x (first_none x (first_at k g r) (λ y below. none_at y (less y below lt) (not_due y below))) (length g.nodes) s lt
        some)
      where
        less : (y : ℕ) → y < x → x < length g.nodes → y < length g.nodes
        less y below lt = omega arith

        not_less : (y : ℕ) → y < x → x ≤ y → ⊥
        not_less y below le = omega arith

        not_due : (y : ℕ) → y < x → due y ≡ false
        not_due y below = elim (cases_Bool (due y)) [
          | inl on ↦ absurd (not_less y below (least y on))
          | inr off ↦ off
        ]

    pub first_not : ((q : ℕ) → due q ≡ false) → None ≡ first_by k g r
    first_not off = sym (first_none (length g.nodes) (first_at k g r) (λ y lt. none_at y lt (off y)))

  -- what a node that rests waits for
  module _ (there : NeighboursThere k g) (waits : ℕ → ℕ → Bool) (x : ℕ) where
    site_row : (r : Rule) (c : Concept) → is_indirectly_blocked k g x ≡ false → site k g r x c ≡ None → row k g r x c ≡ None
    site_row r c free none = sym (ap (λ b. cond b None (row k g r x c)) free) ∙ none

    at_class : (r : Rule) (place : ℕ) (c : Concept) → class_at g x place ≡ Some c → site_at k g r x place ≡ None → site k g r x c ≡ None
    at_class r place c at none = sym (ap (option_and_then (site k g r x)) at) ∙ none

    has_it : (near free lacks : Bool) → (near && (not free && not lacks)) ≡ false → near ≡ true → free ≡ false → lacks ≡ true
    has_it true false true e n f = refl
    has_it true false false e n f = cc
    has_it true true lacks e n f = cc
    has_it false free lacks e n f = cc

    all_rests : AreWaitedFor k g waits x → ((place : ℕ) → site_at k g rule.All x place ≡ None) → RestsBy k g waits x rule.All
    all_rests awaited none place c p at part = elim (cases_Bool (is_indirectly_blocked k g x)) [
      | inl stops ↦ inl stops
      | inr free ↦ inr (λ y near. elim (cases_Bool (is_indirectly_blocked k g y)) [
        | inl stops ↦ inr (stops, awaited p.0 y near stops)
        | inr open_there ↦
            let row_none : first_below (length g.nodes) (λ z. where_true (needs k g p.0 p.1 x z) z) ≡ None =
            sym (ap (option_and_then {U = ℕ} (λ q. first_below (length g.nodes) (λ z. where_true (needs k g q.0 q.1 x z) z))) part)
            ∙ site_row rule.All c free (at_class rule.All place c at (none place)) in
            let fails : needs k g p.0 p.1 x y ≡ false =
            where_none (needs k g p.0 p.1 x y) y
            (none_below (length g.nodes) (λ z. where_true (needs k g p.0 p.1 x z) z) row_none y (there p.0 x y near)) in
            inl (has_it (is_neighbour k g p.0 x y) (is_indirectly_blocked k g y) (has_concept (label_at g y) p.1) fails near open_there)
      ])
    ]

    trans_rests : AreWaitedFor k g waits x → ((place : ℕ) → site_at k g rule.Trans x place ≡ None) → RestsBy k g waits x rule.Trans
    trans_rests awaited none place c role at part = elim (cases_Bool (is_indirectly_blocked k g x)) [
      | inl stops ↦ inl stops
      | inr free ↦ inr (λ t carries y near. elim (cases_Bool (is_indirectly_blocked k g y)) [
        | inl stops ↦ inr (stops, awaited t y near stops)
        | inr open_there ↦
            let row_none : first_below (length g.nodes) (λ z. where_true (list_any (λ s. needs k g s (along s c) x z) (carriers k role)) z) ≡ None =
            sym (ap (option_and_then {U = ℕ}
            (λ q. first_below (length g.nodes) (λ z. where_true (list_any (λ s. needs k g s (along s c) x z) (carriers k q)) z))) part)
            ∙ site_row rule.Trans c free (at_class rule.Trans place c at (none place)) in
            let all_fail : list_any (λ s. needs k g s (along s c) x y) (carriers k role) ≡ false =
            where_none (list_any (λ s. needs k g s (along s c) x y) (carriers k role)) y
            (none_below (length g.nodes) (λ z. where_true (list_any (λ s. needs k g s (along s c) x z) (carriers k role)) z) row_none y (there t x y near)) in
            let fails : needs k g t (along t c) x y ≡ false =
            none_there (λ s. needs k g s (along s c) x y) (carriers k role) t all_fail carries in
            inl (has_it (is_neighbour k g t x y) (is_indirectly_blocked k g y) (has_concept (label_at g y) (along t c)) fails near open_there)
      ])
    ]

    must_block : (a b : Bool) → (not a && not b) ≡ false → b ≡ false → a ≡ true
    must_block true b e f = refl
    must_block false true e f = cc
    must_block false false e f = cc

    some_rests : ((place : ℕ) → IsWaitedFor k g waits x place) → ((place : ℕ) → site_at k g rule.Some x place ≡ None) → RestsBy k g waits x rule.Some
    some_rests awaited none place c p at part = elim (awaited place c p at part) [
      | inr served ↦ inr served
      | inl alone ↦ inl (elim (cases_Bool (is_indirectly_blocked k g x)) [
        | inl stops ↦ or_right (is_directly_blocked k g x) (is_indirectly_blocked k g x) stops
        | inr free ↦
            let row_none : where_true (not (is_blocked k g x) && not (some_below (length g.nodes) (serves k g p.0 p.1 x))) 0 ≡ None =
            sym (ap (option_and_then {U = ℕ} (λ q. where_true (not (is_blocked k g x) && not (some_below (length g.nodes) (serves k g q.0 q.1 x))) 0)) part)
            ∙ site_row rule.Some c free (at_class rule.Some place c at (none place)) in
            must_block (is_blocked k g x) (some_below (length g.nodes) (serves k g p.0 p.1 x))
            (where_none (not (is_blocked k g x) && not (some_below (length g.nodes) (serves k g p.0 p.1 x))) 0 row_none) alone
      ])
    ]

    pub rests_all : (r : Rule) → reaches_out r ≡ true → first_at k g r x ≡ None → waits_for waits x (way_up g x) ≡ true → AreWaitedFor k g waits x
        → IsResting k g waits r x
    rests_all rule.And e none own awaited = cc
    rests_all rule.Unfold e none own awaited = cc
    rests_all rule.All e none own awaited = record { none = no_sites rule.All x none; own = own; others = all_rests awaited (no_sites rule.All x none) }
    rests_all rule.Trans e none own awaited = record { none = no_sites rule.Trans x none; own = own; others = trans_rests awaited (no_sites rule.Trans x none) }
    rests_all rule.Value e none own awaited = cc
    rests_all rule.Unit e none own awaited = cc
    rests_all rule.Or e none own awaited = cc
    rests_all rule.Some e none own awaited = cc

    pub rests_some : (r : Rule) → sprouts r ≡ true → first_at k g r x ≡ None → waits_for waits x (way_up g x) ≡ true
        → ((place : ℕ) → IsWaitedFor k g waits x place) → IsResting k g waits r x
    rests_some rule.And e none own awaited = cc
    rests_some rule.Unfold e none own awaited = cc
    rests_some rule.All e none own awaited = cc
    rests_some rule.Trans e none own awaited = cc
    rests_some rule.Value e none own awaited = cc
    rests_some rule.Unit e none own awaited = cc
    rests_some rule.Or e none own awaited = cc
    rests_some rule.Some e none own awaited = record { none = no_sites rule.Some x none; own = own; others = some_rests awaited (no_sites rule.Some x none) }

    pub rests_other : (r : Rule) → reaches_out r ≡ false → sprouts r ≡ false → first_at k g r x ≡ None → waits_for waits x (way_up g x) ≡ true
        → IsResting k g waits r x
    rests_other r e f none own = record { none = no_sites r x none; own = own; others = others r e f }
      where
        others : (r : Rule) → reaches_out r ≡ false → sprouts r ≡ false → RestsBy k g waits x r
        others rule.And e f = tt
        others rule.Unfold e f = tt
        others rule.All e f = cc
        others rule.Trans e f = cc
        others rule.Value e f = tt
        others rule.Unit e f = tt
        others rule.Or e f = tt
        others rule.Some e f = cc
