-- What has to fit the number types. Only private calls speak of it.
use Rattle.std.specs.Prelude.{◌<◌, length}
use Rattle.codeco_text.specs.declared.written.WrittenRule.{WrittenRule}
use Rattle.codeco_checked.specs.declared.numbers.TheConstants.{NUMBERS}
use Rattle.codeco_numbering.specs.declared.tables.GrammarTables.{GrammarTables}
use Rattle.codeco_numbering.specs.Numbered.{Tables, variable_names}

-- each number that the tables give, and the number that follows, fits its type
pub record HasRoom (t : Tables) : Type 0 where
  pub features : length t.features < NUMBERS
  pub atoms : length t.atoms < NUMBERS
  pub terminals : length t.terminals < NUMBERS
  pub categories : length t.categories < 65531
  pub variables : length t.variables < 256

-- the tables of a grammar, with the variables of a rule
abbrev pub rule_tables : GrammarTables → WrittenRule → Tables
rule_tables g r = record { features = g.features; atoms = g.atoms; terminals = g.terminals; categories = g.categories; variables = variable_names g.features r }
