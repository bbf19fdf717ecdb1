-- What cut-off phrases are asked for next.
use Rattle.std.specs.Prelude.{◌≡◌, ℕ, ◌==◌, Bool, true, false, List, slice_get, Option, Some, None}
use Rattle.codeco_terms.specs.declared.values.Value.{Value}
use Rattle.codeco_terms.specs.declared.categories.Ground.{Ground}
use Rattle.codeco_terms.specs.declared.elements.Element.{Element}
use Rattle.codeco_terms.specs.declared.elements.Element.TheVariants.{Terminal, Preterminal}
use Rattle.codeco_terms.specs.declared.rules.Rule.{Rule}
use Rattle.scopes.specs.declared.agreement.Test.{Test}
use Rattle.scopes.specs.Resolution.{agrees}
use Rattle.derivation_trees.specs.Settings.{Setting}
use Rattle.derivation_trees.specs.Instances.{under}
use Rattle.derivation_trees.specs.Derives.{At, rule_with}
use Rattle.derivation_trees.specs.Partial.{CutNode, stopped, entered, cut_end}
use Rattle.chart_table.specs.declared.asks.Ask.{Ask}
use Rattle.chart_table.specs.declared.asks.Ask.TheVariants as ask

-- the element takes a token that reads so
abbrev pub takes_reading : List (ℕ × Value) → Ground → Element → Bool
takes_reading values reading (Preterminal c) = agrees reading (under values c)
takes_reading _ _ _ = false

-- the element is the terminal with the number
abbrev pub takes_terminal : ℕ → Element → Bool
takes_terminal number (Terminal t) = t == number
takes_terminal _ _ = false

-- the next element, if there is one, meets the ask in the instance: whatever it is, or it is the terminal, or it is a
-- preterminal with which the reading agrees
abbrev pub meets : List (ℕ × Value) → Option Element → Ask → Bool
meets values next ask.Any = true
meets values None (ask.Terminal number) = false
meets values (Some e) (ask.Terminal number) = takes_terminal number e
meets values None (ask.Reading reading) = false
meets values (Some e) (ask.Reading reading) = takes_reading values reading e

-- after the first `count` elements of the rule, the next one meets the ask in the instance
abbrev pub is_met : Rule → List (ℕ × Value) → ℕ → Ask → Bool
is_met rule values count asks = meets values (slice_get rule.body count) asks

-- where a cut-off node is cut off by itself, its next element meets the ask
abbrev pub CutMeets : Setting → CutNode → Ask → Type 0
CutMeets s (stopped number values found children count) asks =
    (rule : Rule) × (rule_with s.grammar number ≡ Some rule) × (is_met rule values count asks ≡ true)
CutMeets s (entered number values found children count child) asks = CutMeets s child asks

-- some cut-off node, as a phrase for the category from the place and the list, ends at this place, and there its next element
-- meets the ask
abbrev pub AskLeads : Setting → ℕ → Ask → Test → At → Type 0
AskLeads s halt asks asked at = (cut : CutNode) × (cut_end s cut asked at ≡ Some halt) × CutMeets s cut asks
