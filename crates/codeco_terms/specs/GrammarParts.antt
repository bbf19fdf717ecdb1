-- What a grammar is seen as.
use Rattle.std.specs.Prelude.{ℕ, List}
use Rattle.codeco_terms.specs.declared.declarations.Feature.{Feature}
use Rattle.codeco_terms.specs.declared.rules.Rule.{Rule}

-- the features, the names of the atoms, the terminals and the names of the categories in order of number from 0,
-- and the rules in order of number from 1
pub record GrammarParts : Type 0 where
  pub features : List Feature
  pub atoms : List (List ℕ)
  pub terminals : List (List ℕ)
  pub categories : List (List ℕ)
  pub rules : List Rule
