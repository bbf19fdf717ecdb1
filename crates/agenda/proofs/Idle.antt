-- A rule applies for no class that does not concern it.
use Rattle.std.proofs.Common.{◌≡◌, ℕ, Bool, true, false, length, cond, Option, Some, None, refl, ap}
use Rattle.std.specs.Prelude.{is_some}
use Rattle.std.specs.Option.{option_and_then, option_map}
use Rattle.tableau_rules.proofs.Lists.{none_passes}
use Rattle.logic_terms.specs.Concept.{Concept}
use Rattle.logic_terms.specs.Parts.{word_part, intersection_part, union_part, some_part, all_part, value_part}
use Rattle.logic_terms.specs.Theory.{Theory}
use Rattle.tableau_rules.specs.declared.step.Rule.{Rule}
use Rattle.tableau_rules.specs.declared.step.Rule.TheVariants as rule
use Rattle.tableau_rules.specs.declared.step.Step.{Step}
use Rattle.tableau_rules.specs.Carrying.{role_of_all}
use Rattle.tableau_rules.specs.Graph.{Graph, label_at, class_at}
use Rattle.tableau_rules.specs.Blocking.{is_indirectly_blocked}
use Rattle.tableau_rules.specs.Rules.{row, site, site_at, first_at}
use Rattle.tableau_rules.proofs.Firsts.{first_none}
use Rattle.agenda.specs.Resting.{reads, concerns}

none_then : {X Y : Type 0} (f : X → Option Y) (o : Option X) → is_some o ≡ false → option_and_then f o ≡ None
none_then f None h = refl
none_then f (Some x) h = cc

module _ (k : Theory) (g : Graph) (x : ℕ) where
  row_none : (r : Rule) (c : Concept) → reads r c ≡ false → row k g r x c ≡ None
  row_none rule.And c h = none_then _ (intersection_part c) h
  row_none rule.Unfold c h = none_then _ (word_part c) h
  row_none rule.All c h = none_then _ (all_part c) h
  row_none rule.Trans c h = none_then _ (role_of_all c) h
  row_none rule.Value c h = none_then _ (value_part c) h
  row_none rule.Unit c h = none_then _ (union_part c) h
  row_none rule.Or c h = none_then _ (union_part c) h
  row_none rule.Some c h = none_then _ (some_part c) h

  pub row_site : (r : Rule) (c : Concept) → row k g r x c ≡ None → site k g r x c ≡ None
  row_site r c h = go (is_indirectly_blocked k g x)
    where
      go : (b : Bool) → cond b None (row k g r x c) ≡ None
      go true = refl
      go false = h

  pub idle : (r : Rule) → concerns r (label_at g x) ≡ false → (place : ℕ) → site_at k g r x place ≡ None
  idle r h place = go (class_at g x place) refl
    where
      go : (o : Option Concept) → class_at g x place ≡ o → option_and_then (site k g r x) o ≡ None
      go None at = refl
      go (Some c) at = row_site r c (row_none r c (none_passes (reads r) (label_at g x) place c h at))

  pub no_first : (r : Rule) → ((place : ℕ) → site_at k g r x place ≡ None) → first_at k g r x ≡ None
  no_first r none =
      let step_at : ℕ → ℕ → Step = λ place y. record { rule = r; node = x; class = place; other = y } in
      first_none (length (label_at g x)) (λ place. option_map (step_at place) (site_at k g r x place))
      (λ place lt. ap (option_map (step_at place)) (none place))
