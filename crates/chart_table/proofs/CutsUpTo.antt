-- Where a rule is cut off in an instance, and the cut-off phrases that the rules up to a number give.
use Rattle.std.specs.Prelude.{◌≡◌, ℕ, ◌≤◌, true, List, take, Some}
use Rattle.codeco_terms.specs.declared.values.Value.{Value}
use Rattle.codeco_terms.specs.declared.rules.Rule.{Rule}
use Rattle.scopes.specs.declared.agreement.Test.{Test}
use Rattle.derivation_trees.specs.Settings.{Setting}
use Rattle.derivation_trees.specs.Instances.{under, own_values, is_instance}
use Rattle.derivation_trees.specs.Derives.{At, fits, rule_with}
use Rattle.chart_table.specs.declared.states.Cut.{Cut}
use Rattle.chart_table.specs.Aims.{Aims}
use Rattle.chart_table.specs.Leading.{Path}
use Rattle.chart_table.specs.Cuts.{Stops, HasCut, IsRuleCut, HasRuleCuts}

-- the rule is cut off in the instance, as a phrase for the category: after some of its elements it stands at the place and
-- its next element meets the ask, or a category comes next that is cut off itself
pub record RuleCut (s : Setting) (aim : Aims) (j : ℕ) (rule : Rule) (values : List (ℕ × Value)) (asked : Test) (at : At) : Type 0 where
  pub instance : is_instance s rule values ≡ true
  pub head : fits (under values rule.head) asked ≡ true
  pub count : ℕ
  pub last : At
  pub path : Path s values (own_values rule values) (take count rule.body) at last
  pub stop : Stops s aim j rule values count last

-- the values are those of the head of a cut-off phrase of a rule with the name
pub record IsCutOf (s : Setting) (aim : Aims) (name : ℕ) (at : At) (j : ℕ) (head : List (ℕ × Value)) : Type 0 where
  pub number : ℕ
  pub rule : Rule
  pub has : rule_with s.grammar number ≡ Some rule
  pub named : rule.head.name ≡ name
  pub cut : IsRuleCut s aim rule at j head

-- what the rules up to this number give
pub record HasCutsUpTo (s : Setting) (aim : Aims) (name : ℕ) (known : List (ℕ × Value)) (at : At) (count : ℕ) (cuts : List Cut) : Type 0 where
  pub sound : (j : ℕ) (head : List (ℕ × Value)) → HasCut cuts j head → IsCutOf s aim name at j head
  pub complete : (number : ℕ) (rule : Rule) → rule_with s.grammar number ≡ Some rule → number ≤ count → rule.head.name ≡ name
      → HasRuleCuts s aim rule known at cuts
