-- Choices as the program holds them. Only private calls speak of it.
use Rattle.std.specs.Prelude.{ℕ, List}
use Rattle.codeco_terms.specs.declared.values.Value.{Value}
use Rattle.derivations.specs.declared.choices.Choice.{Choice}

-- the variable with the values to be tried
abbrev pub choice_of : Choice → ℕ × List Value
choice_of choice = (choice.variable, choice.values)
