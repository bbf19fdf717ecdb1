-- Where a rule is cut off in an instance, by what it is asked for next.
use Rattle.std.specs.Prelude.{◌≡◌, ℕ, true, List, take, Some, ◌⊎◌}
use Rattle.codeco_terms.specs.declared.values.Value.{Value}
use Rattle.codeco_terms.specs.declared.categories.Category.{Category}
use Rattle.codeco_terms.specs.declared.rules.Rule.{Rule}
use Rattle.scopes.specs.declared.agreement.Test.{Test}
use Rattle.derivation_trees.specs.Settings.{Setting}
use Rattle.derivation_trees.specs.Instances.{under, own_values, is_instance}
use Rattle.derivation_trees.specs.Derives.{At, fits}
use Rattle.derivation_trees.specs.Partial.{next_category}
use Rattle.chart_table.specs.declared.asks.Ask.{Ask}
use Rattle.chart_table.specs.Leading.{Path}
use Rattle.chart_table.specs.Asks.{is_met, AskLeads}

-- A node that has gone so many elements of its rule is cut off there: it stands at the place and its next element meets the
-- ask, or a category comes next that is cut off itself.
abbrev pub AskStops : Setting → ℕ → Ask → Rule → List (ℕ × Value) → ℕ → At → Type 0
AskStops s halt asks rule values count last =
    ((last.place ≡ halt) × (is_met rule values count asks ≡ true))
    ⊎ ((c : Category) × (next_category rule count ≡ Some c) × AskLeads s halt asks (under values c) last)

-- the rule is cut off in the instance, as a phrase for the category: after some of its elements it stands at the place and
-- its next element meets the ask, or a category comes next that is cut off itself
pub record RuleAsks (s : Setting) (halt : ℕ) (asks : Ask) (rule : Rule) (values : List (ℕ × Value)) (asked : Test) (at : At) : Type 0 where
  pub instance : is_instance s rule values ≡ true
  pub head : fits (under values rule.head) asked ≡ true
  pub count : ℕ
  pub last : At
  pub path : Path s values (own_values rule values) (take count rule.body) at last
  pub stop : AskStops s halt asks rule values count last
