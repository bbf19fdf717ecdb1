-- Where a rule leads in an instance.
use Rattle.std.specs.Prelude.{◌≡◌, ℕ, true, List}
use Rattle.codeco_terms.specs.declared.values.Value.{Value}
use Rattle.codeco_terms.specs.declared.rules.Rule.{Rule}
use Rattle.scopes.specs.declared.entries.Entry.{Entry}
use Rattle.scopes.specs.declared.agreement.Test.{Test}
use Rattle.derivation_trees.specs.Settings.{Setting}
use Rattle.derivation_trees.specs.Instances.{under, is_instance, own_values}
use Rattle.derivation_trees.specs.Derives.{At, fits, list_after}
use Rattle.chart_table.specs.Leading.{Path}

-- the place and the list after a phrase of the rule that began with a list
abbrev pub closed_at : Rule → List Entry → At → At
closed_at rule begun at = record { place = at.place; list = list_after rule.closing begun at.list }

-- the rule leads in the instance, as a phrase for the category
pub record RuleLeads (s : Setting) (rule : Rule) (values : List (ℕ × Value)) (asked : Test) (at after : At) : Type 0 where
  pub instance : is_instance s rule values ≡ true
  pub head : fits (under values rule.head) asked ≡ true
  pub last : At
  pub path : Path s values (own_values rule values) rule.body at last
  pub end : after ≡ closed_at rule at.list last
