-- Which token may come at a place, by what is asked for there.
use Rattle.std.specs.Prelude.{◌≡◌, ℕ, true, List, slice_get, Some}
use Rattle.codeco_terms.specs.declared.categories.Ground.{Ground}
use Rattle.scopes.specs.declared.agreement.Test.{Test}
use Rattle.derivation_trees.specs.Settings.{Setting, matches_terminal}
use Rattle.derivation_trees.specs.Derives.{At}
use Rattle.chart_table.specs.declared.asks.Ask.{Ask}
use Rattle.chart_table.specs.declared.asks.Ask.TheVariants as ask
use Rattle.chart_table.specs.Branches.{OneOf}
use Rattle.chart_table.specs.Asks.{AskLeads}

-- the token at the place meets the ask: it is the terminal, or it reads so
abbrev pub TokenMeets : Setting → ℕ → Ask → Type 0
TokenMeets s place ask.Any = ⊥
TokenMeets s place (ask.Terminal number) = matches_terminal s number place ≡ true
TokenMeets s place (ask.Reading reading) = (readings : List Ground) × (slice_get s.readings place ≡ Some readings) × OneOf readings reading

-- the token at the place may come there: a cut-off node of the category of sentences asks for it
abbrev pub Follows : Setting → ℕ → Test → At → Type 0
Follows s place asked at = (asks : Ask) × TokenMeets s place asks × AskLeads s place asks asked at
