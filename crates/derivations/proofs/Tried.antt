-- The values that are tried for a variable of a rule.
use Rattle.std.specs.Prelude.{ℕ, List}
use Rattle.codeco_terms.specs.declared.values.Value.{Value}
use Rattle.codeco_terms.specs.declared.rules.Rule.{Rule}
use Rattle.scopes.specs.declared.agreement.Test.{Test}
use Rattle.derivation_trees.specs.Settings.{Setting}
use Rattle.derivations.specs.Enumeration.{rule_terms, tried_among}

abbrev pub tried : Setting → Rule → Test → ℕ → List Value
tried s rule wanted x = tried_among s rule (rule_terms rule) wanted x
