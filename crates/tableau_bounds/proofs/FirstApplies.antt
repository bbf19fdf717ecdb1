-- The first applicable step applies.
use Rattle.std.proofs.Common.{◌≡◌, ℕ, zero, suc, ◌==◌, true, false, length, Option, Some, None, refl, ap, ◌∙◌, subst, inl, inr}
use Rattle.std.specs.Prelude.{◌⊎◌}
use Rattle.std.specs.Option.{option_map, option_map_or, option_or}
use Rattle.std.proofs.lemmas.Bool.{eq-eqb}
use Rattle.logic_terms.specs.Theory.{Theory}
use Rattle.tableau_rules.specs.declared.step.Step.{Step}
use Rattle.tableau_rules.specs.declared.step.Rule.{Rule}
use Rattle.tableau_rules.specs.declared.step.Rule.TheVariants as rule
use Rattle.tableau_rules.specs.First.{first_below}
use Rattle.tableau_rules.specs.Graph.{Graph, label_at}
use Rattle.tableau_rules.specs.Rules.{site_at, first_at, first_by, first_step, applies}

module _ (k : Theory) (g : Graph) where
  from_or : {X : Type 0} (a b : Option X) (x : X) → option_or a b ≡ Some x → (a ≡ Some x) ⊎ (b ≡ Some x)
  from_or None b x h = inr h
  from_or (Some y) b x h = inl h

  found_below : {X : Type 0} (n : ℕ) (f : ℕ → Option X) (x : X) → first_below n f ≡ Some x → (m : ℕ) × (f m ≡ Some x)
  found_below zero f x h = cc
  found_below (suc n) f x h = elim (from_or (first_below n f) (f n) x h) [
    | inl before ↦ found_below n f x before
    | inr here ↦ (n, here)
  ]

  some_same : {X : Type 0} (a b : X) → Some a ≡ Some b → a ≡ b
  some_same a b e = cc

  found_site : (r : Rule) (x place : ℕ) (s : Step) (o : Option ℕ) → site_at k g r x place ≡ o
      → option_map (λ y. record { rule = r; node = x; class = place; other = y }) o ≡ Some s → applies k g s ≡ true
  found_site r x place s None at h = cc
  found_site r x place s (Some y) at h =
      let t : Step = record { rule = r; node = x; class = place; other = y } in
      let same : t ≡ s = some_same t s h in
      subst (λ q. applies k g q ≡ true) same (ap (λ o. option_map_or (λ z. z == y) o false) at ∙ eq-eqb y y refl)

  found_by : (r : Rule) (s : Step) → first_by k g r ≡ Some s → applies k g s ≡ true
  found_by r s h =
      let node = found_below (length g.nodes) (first_at k g r) s h in
      let place = found_below (length (label_at g node.0))
      (λ place. option_map (λ y. record { rule = r; node = node.0; class = place; other = y }) (site_at k g r node.0 place)) s node.1 in
      found_site r node.0 place.0 s (site_at k g r node.0 place.0) refl place.1

  pub first_applies : (s : Step) → first_step k g ≡ Some s → applies k g s ≡ true
  first_applies s h = elim (from_or (first_by k g rule.And) _ s h) [
    | inl a ↦ found_by rule.And s a
    | inr h1 ↦ elim (from_or (first_by k g rule.Unfold) _ s h1) [
      | inl a ↦ found_by rule.Unfold s a
      | inr h2 ↦ elim (from_or (first_by k g rule.All) _ s h2) [
        | inl a ↦ found_by rule.All s a
        | inr h3 ↦ elim (from_or (first_by k g rule.Trans) _ s h3) [
          | inl a ↦ found_by rule.Trans s a
          | inr h4 ↦ elim (from_or (first_by k g rule.Value) _ s h4) [
            | inl a ↦ found_by rule.Value s a
            | inr h5 ↦ elim (from_or (first_by k g rule.Unit) _ s h5) [
              | inl a ↦ found_by rule.Unit s a
              | inr h6 ↦ elim (from_or (first_by k g rule.Or) _ s h6) [
                | inl a ↦ found_by rule.Or s a
                | inr a ↦ found_by rule.Some s a
              ]
            ]
          ]
        ]
      ]
    ]
  ]
