-- Which node a step adds classes to. Only private calls speak of it.
use Rattle.std.specs.Prelude.{ℕ, Bool, true, false, Option, Some, None}
use Rattle.tableau_rules.specs.declared.step.Rule.{Rule}
use Rattle.tableau_rules.specs.declared.step.Rule.TheVariants as rule
use Rattle.tableau_rules.specs.declared.step.Step.{Step}

-- the node whose label a rule makes grow, at a node and with the node y of the rule; none for a rule that adds an edge
abbrev pub grown_node : Rule → ℕ → ℕ → Option ℕ
grown_node rule.All x y = Some y
grown_node rule.Trans x y = Some y
grown_node rule.Value x y = None
grown_node rule.Some x y = None
grown_node _ x _ = Some x

abbrev pub grown_by : Step → Option ℕ
grown_by s = grown_node s.rule s.node s.other

-- whether a rule makes a node
abbrev pub sprouts : Rule → Bool
sprouts rule.Some = true
sprouts _ = false

-- whether a rule adds classes to a neighbour
abbrev pub reaches_out : Rule → Bool
reaches_out rule.All = true
reaches_out rule.Trans = true
reaches_out _ = false
