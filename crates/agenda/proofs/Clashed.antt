-- The changed nodes decide whether there is a clash after a step.
use Rattle.std.proofs.Common.{◌≡◌, ℕ, ◌==◌, ◌||◌, Bool, true, false, Some, None, subst, refl, sym, ap, ◌∙◌, inl, inr}
use Rattle.std.proofs.lemmas.Bool.{cases_Bool, or_cases, or_right, eqb-true}
use Rattle.std.proofs.lemmas.Option.{same_Some}
use Rattle.logic_terms.specs.Theory.{Theory}
use Rattle.tableau_rules.specs.declared.branch.Edge.{Edge}
use Rattle.tableau_rules.specs.declared.step.Step.{Step}
use Rattle.tableau_rules.specs.Clashes.{has_clash}
use Rattle.tableau_rules.specs.Graph.{Graph}
use Rattle.agenda.specs.Agendas.{IsAfterCalm}
use Rattle.agenda.proofs.Changes.{Changes}
use Rattle.agenda.specs.Steps.{grown_by, sprouts}
use Rattle.agenda.specs.Views.{last_edge}
use Rattle.agenda.proofs.Calm.{is_hit, hit_clash, calm_after}
use Rattle.agenda.proofs.Changing.{ends, same_changes, adding_changes, edge_changes, node_changes}
use Rattle.agenda.proofs.Effects.{IsGrown, growth, linking, sprouting}
use Rattle.agenda.proofs.Noting.{linked_last, sprouted_last, has_last}

module _ (k : Theory) (s : Step) (h : Graph) (before : IsAfterCalm k s h) where
  pub grown_exact : (x : ℕ) → grown_by s ≡ Some x → is_hit k h x ≡ has_clash k h
  grown_exact x some = elim (cases_Bool (is_hit k h x)) [
    | inl hit ↦ hit ∙ sym (hit_clash k h x hit)
    | inr calm ↦ calm ∙ sym (calm_after k before.0 h (λ y. x == y) (λ y. false)
        (change (subst (IsGrown k before.0 x) (sym before.4) (growth k before.0 s before.1 x some))) before.2 (λ y changed. only calm y changed))
  ]
    where
      change : IsGrown k before.0 x h → Changes k before.0 h (λ y. x == y) (λ y. false)
      change (inl same) = subst (λ f. Changes k before.0 f (λ y. x == y) (λ y. false)) (sym same) (same_changes k before.0 (λ y. x == y) (λ y. false))
      change (inr (cs, is)) = subst (λ f. Changes k before.0 f (λ y. x == y) (λ y. false)) (sym is) (adding_changes k before.0 x cs)

      only : is_hit k h x ≡ false → (y : ℕ) → ((x == y) || false) ≡ true → is_hit k h y ≡ false
      only calm y changed = elim (or_cases (x == y) false changed) [
        | inl same ↦ subst (λ z. is_hit k h z ≡ false) (eqb-true x y same) calm
        | inr off ↦ cc
      ]

  module _ (e : Edge) (none : grown_by s ≡ None) (last : last_edge h ≡ Some e) where
    at_ends : (d : Edge) → d ≡ e → is_hit k h e.from ≡ false → is_hit k h e.to ≡ false → (y : ℕ) → ends d y ≡ true → is_hit k h y ≡ false
    at_ends d same from to y joined = elim (or_cases (d.from == y) (d.to == y) joined) [
      | inl one ↦ subst (λ z. is_hit k h z ≡ false) (ap (λ f. f.from) (sym same) ∙ eqb-true d.from y one) from
      | inr other ↦ subst (λ z. is_hit k h z ≡ false) (ap (λ f. f.to) (sym same) ∙ eqb-true d.to y other) to
    ]

    pub edge_calm : is_hit k h e.from ≡ false → is_hit k h e.to ≡ false → has_clash k h ≡ false
    edge_calm from to = go (sprouts s.rule) refl
      where
        go : (b : Bool) → sprouts s.rule ≡ b → has_clash k h ≡ false
        go true kind =
            let it = sprouting k before.0 s before.1 kind before.3 in
            let is = before.4 ∙ it.is in
            let same : it.edge ≡ e = same_Some it.edge e (sym (sprouted_last before.0 h it.node it.edge is) ∙ last) in
            calm_after k before.0 h (λ y. it.edge.to == y) (ends it.edge)
            (subst (λ f. Changes k before.0 f (λ y. it.edge.to == y) (ends it.edge)) (sym is) (node_changes k before.0 it.node it.edge it.to)) before.2
            (λ y changed. at_ends it.edge same from to y (elim (or_cases (it.edge.to == y) (ends it.edge y) changed) [
              | inl new ↦ or_right (it.edge.from == y) (it.edge.to == y) new
              | inr joined ↦ joined
            ]))
        go false kind =
            let it = linking k before.0 s before.1 none kind before.3 in
            let is = before.4 ∙ it.is in
            let same : it.edge ≡ e = same_Some it.edge e (sym (linked_last before.0 h it.edge is) ∙ last) in
            calm_after k before.0 h (λ y. false) (ends it.edge)
            (subst (λ f. Changes k before.0 f (λ y. false) (ends it.edge)) (sym is) (edge_changes k before.0 it.edge)) before.2
            (λ y changed. at_ends it.edge same from to y (elim (or_cases false (ends it.edge y) changed) [
              | inl off ↦ cc
              | inr joined ↦ joined
            ]))

    pub from_exact : is_hit k h e.from ≡ true → true ≡ has_clash k h
    from_exact hit = sym (hit_clash k h e.from hit)

    pub to_exact : is_hit k h e.from ≡ false → is_hit k h e.to ≡ has_clash k h
    to_exact from = elim (cases_Bool (is_hit k h e.to)) [
      | inl hit ↦ hit ∙ sym (hit_clash k h e.to hit)
      | inr to ↦ to ∙ sym (edge_calm from to)
    ]

  pub none_exact : grown_by s ≡ None → last_edge h ≡ None → false ≡ has_clash k h
  none_exact none last = absurd (has_last k before.0 s before.1 h none before.3 before.4 last)
