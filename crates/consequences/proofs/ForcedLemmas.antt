-- Each model fits a branch to which steps that leave one choice lead.
use Rattle.std.proofs.Common.{◌≡◌, ℕ, ◌<◌, true, Some, subst, sym, arith}
use Rattle.std.proofs.Math.Logic.{∥∥₁_elim}
use mathlib.Core.Bool.{Bool-set}
use Rattle.wiki_base.specs.declared.numbers.WordId.{WordId}
use Rattle.logic_terms.specs.Concept.{Concept}
use Rattle.logic_terms.specs.Interpretation.{Interpretation, is_interpretation, element_of}
use Rattle.logic_terms.specs.Meaning.{is_in}
use Rattle.logic_terms.specs.Theory.{Theory}
use Rattle.logic_terms.proofs.MeaningLemmas.{is_in-Decides}
use Rattle.tableau_rules.specs.declared.step.Step.{Step}
use Rattle.tableau_rules.specs.Graph.{Graph}
use Rattle.tableau_rules.specs.Neighbours.{node_of}
use Rattle.tableau_rules.specs.Rules.{applies, choices, after}
use Rattle.tableau_rules.specs.Branches.{start}
use Rattle.closure_check.proofs.Fitting.{Fits}
use Rattle.closure_check.proofs.StepFits.{Obeys, step_fits}
use Rattle.closure_check.proofs.StartFits.{first_elements, start_fits}
use Rattle.closure_check.proofs.Soundness.{Parts, parts_of}
use Rattle.consequences.specs.Forced.{HasInEachModel, IsForced, begun, stepped}
use Rattle.consequences.specs.Shows.{shows}
use Rattle.consequences.proofs.ShowsLemmas.{shown_fits}

first_is : (choice count : ℕ) → choice < count → count ≡ 1 → choice ≡ 0
first_is choice count lt one = omega (arith, lt, one)

module _ (i : Interpretation) (k : Theory) (is : is_interpretation i ≡ true) (parts : Parts i k) where
  forced_fits : (g : Graph) → IsForced k g → (f : ℕ → ℕ) × Fits i k g f
  forced_fits _ begun = (first_elements i k, start_fits i k is parts.names parts.assertions parts.edges parts.general)
  forced_fits _ (stepped g s before applied one) =
      let obeys : Obeys i k = record {
        hierarchy = parts.hierarchy;
        transitive = parts.transitive;
        named = parts.named;
        unfoldings = parts.unfoldings;
        general = parts.general;
      } in
      let there = forced_fits g before in
      let w = step_fits i k obeys g there.0 there.1 s applied in
      (w.2.0, subst (λ choice. Fits i k (after k g s choice) w.2.0) (first_is w.0 (choices g s) w.1 one) w.2.1)

-- what such a branch shows of a name's node each model has
pub shown_in_each : (k : Theory) (g : Graph) → ∥ IsForced k g ∥₁ → (c : Concept) (name : WordId) (x : ℕ) → node_of k name ≡ Some x → shows k g c x ≡ true
    → HasInEachModel k c name
shown_in_each k g forced c name x at shown i is model =
    let parts : Parts i k = parts_of i k is model in
    let fits : IsForced k g → is_in i c (element_of i name) ≡ true = λ h. (
    let there = forced_fits i k is parts g h in
    subst (λ e. is_in i c e ≡ true) (there.1.names name x at) (shown_fits i k g there.0 there.1 parts.hierarchy c x shown)) in
    (is_in-Decides i c (element_of i name)).0 (∥∥₁_elim forced (Bool-set _ _) fits)

-- a branch that is the first one
pub forced_start : (k : Theory) (g : Graph) → g ≡ start k → IsForced k g
forced_start k g is = subst (IsForced k) (sym is) begun

-- a branch that a step with one choice makes
pub forced_after : (k : Theory) (g : Graph) (s : Step) (h : Graph) → IsForced k g → applies k g s ≡ true → choices g s ≡ 1 → h ≡ after k g s 0 → IsForced k h
forced_after k g s h before applied one is = subst (IsForced k) (sym is) (stepped g s before applied one)
