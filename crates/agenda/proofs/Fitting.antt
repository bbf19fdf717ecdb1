-- What an agenda has to do after a step.
use Rattle.std.proofs.Common.{◌≡◌, ℕ, ◌<◌, ◌⊎◌, Bool, true, false, length, refl, ap, ◌∙◌, inl, inr}
use Rattle.std.proofs.lemmas.Bool.{cases_Bool, cases_lt}
use Rattle.wiki_base.proofs.BoolLaws.{not_both}
use Rattle.logic_terms.specs.Theory.{Theory}
use Rattle.tableau_rules.specs.declared.step.Rule.{Rule}
use Rattle.tableau_rules.specs.Graph.{Graph, label_at}
use Rattle.tableau_bounds.proofs.Stepping.{ParentsBelow}
use Rattle.agenda.proofs.Changes.{Changes}
use Rattle.agenda.specs.Resting.{concerns, IsResting, Fits}
use Rattle.agenda.specs.Steps.{reaches_out}
use Rattle.agenda.proofs.Changing.{same_changes}
use Rattle.agenda.proofs.Staying.{NeighboursThere, rest_stays}

-- a node is due, or its label does not concern the rule
abbrev pub IsPut : Rule → Graph → (ℕ → Bool) → ℕ → Type 0
IsPut r h due x = (due x ≡ true) ⊎ (concerns r (label_at h x) ≡ false)

-- nothing that grew is waited for, or something is
abbrev pub IsDecided : (ℕ → Bool) → (ℕ → ℕ → Bool) → ℕ → Type 0
IsDecided grows waits x = ((z : ℕ) × (grows z ≡ true) × (waits z x ≡ true)) ⊎ ((z : ℕ) → waits z x ≡ true → grows z ≡ false)

-- what the lists of an agenda for one rule are after a step
pub record IsNoted (h : Graph) (r : Rule) (grows joins : ℕ → Bool) (due later : ℕ → Bool) (waits then : ℕ → ℕ → Bool) : Type 0 where
  pub decided : (x : ℕ) → IsDecided grows waits x
  pub woken : (z x : ℕ) → grows z ≡ true → waits z x ≡ true → later x ≡ true
  pub kept : (x : ℕ) → due x ≡ true → later x ≡ true
  pub waiting : (z x : ℕ) → grows z ≡ false → waits z x ≡ true → then z x ≡ true
  pub put : (x : ℕ) → grows x ≡ true → IsPut r h later x
  pub met : reaches_out r ≡ true → (x : ℕ) → joins x ≡ true → IsPut r h later x

module _ (k : Theory) (g h : Graph) (grows joins : ℕ → Bool) (change : Changes k g h grows joins) (down : ParentsBelow g) (there : NeighboursThere k g) where
  pub fits_after : (r : Rule) (due later : ℕ → Bool) (waits then : ℕ → ℕ → Bool) → IsNoted h r grows joins due later waits then → Fits k g r due waits
      → Fits k h r later then
  fits_after r due later waits then noted fits x lt = elim (cases_Bool (grows x)) [
    | inl grew ↦ from_put (noted.put x grew)
    | inr still ↦ elim (cases_lt x (length g.nodes)) [
      | inr new ↦ absurd (not_both (change.fresh x new lt) still)
      | inl old ↦ elim (fits x old) [
        | inl d ↦ inl (noted.kept x d)
        | inr (inl idle) ↦ inr (inl (ap (concerns r) (change.labels x still) ∙ idle))
        | inr (inr rests) ↦ elim (noted.decided x) [
          | inl (z, grew, waited) ↦ inl (noted.woken z x grew waited)
          | inr calm ↦ elim (cases_Bool (joins x)) [
            | inr apart ↦ inr (inr (rest_stays k g h grows joins change down there waits x calm old rests.own
                then (λ z still. noted.waiting z x still) r (λ e. apart) rests))
            | inl joined ↦ elim (cases_Bool (reaches_out r)) [
              | inl is ↦ from_put (noted.met is x joined)
              | inr other ↦ inr (inr (rest_stays k g h grows joins change down there waits x calm old rests.own
                  then (λ z still. noted.waiting z x still) r (λ e. absurd (not_both e other)) rests))
            ]
          ]
        ]
      ]
    ]
  ]
    where
      from_put : IsPut r h later x → (later x ≡ true) ⊎ ((concerns r (label_at h x) ≡ false) ⊎ IsResting k h then r x)
      from_put (inl d) = inl d
      from_put (inr idle) = inr (inl idle)

-- where more is waited for
pub rest_more : (k : Theory) (g : Graph) → ParentsBelow g → NeighboursThere k g → (r : Rule) (waits then : ℕ → ℕ → Bool)
    → ((z x : ℕ) → waits z x ≡ true → then z x ≡ true) → (x : ℕ) → x < length g.nodes → IsResting k g waits r x → IsResting k g then r x
rest_more k g down there r waits then more x lt rests =
    rest_stays k g g (λ y. false) (λ y. false) (same_changes k g (λ y. false) (λ y. false)) down there waits x (λ z w. refl) lt rests.own
    then (λ z still w. more z x w) r (λ e. refl) rests
