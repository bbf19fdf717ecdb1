-- Tokens by another grammar or lexicon.
use Rattle.std.specs.Prelude.{◌≡◌, ℕ, ◌≤◌, List, take, length}
use Rattle.codeco_terms.specs.GrammarParts.{GrammarParts}
use Rattle.lexicon.specs.Words.{Listed}
use Rattle.derivation_trees.specs.Partial.{IsTypeable}

-- The rebased tokens are the longest prefix of the tokens that is typeable by the grammar with the lexicon.
pub record IsRebased (g : GrammarParts) (lexicon : Listed) (tokens rebased : List (List ℕ)) : Type 0 where
  pub prefix : take (length rebased) tokens ≡ rebased
  pub typeable : IsTypeable g lexicon rebased
  pub longest : (count : ℕ) → count ≤ length tokens → IsTypeable g lexicon (take count tokens) → count ≤ length rebased
