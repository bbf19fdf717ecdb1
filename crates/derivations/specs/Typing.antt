-- Menus of texts, and how many tokens are typeable.
use Rattle.std.specs.Prelude.{◌≡◌, ℕ, ◌<◌, ◌≤◌, List, take, length, AllPairs, Contains, IsUtf8}
use Rattle.std.specs.declared.cmp.Ordering.TheVariants.{Less}
use Rattle.codeco_terms.specs.GrammarParts.{GrammarParts}
use Rattle.lexicon.specs.Words.{Listed}
use Rattle.derivation_trees.specs.declared.menus.Group.{Group}
use Rattle.derivation_trees.specs.Partial.{IsTypeable}
use Rattle.derivation_trees.specs.Menus.{IsOffered, entry_cmp}

-- The menu of tokens, of the texts in UTF-8 among the tokens that may follow. It is the whole menu where all terminals of
-- the grammar are in UTF-8, as those of a grammar are that was read from a text.
pub record IsTextMenu (g : GrammarParts) (lexicon : Listed) (tokens : List (List ℕ)) (menu : List (Group × List ℕ)) : Type 0 where
  pub in_order : AllPairs (λ entry later. entry_cmp entry later ≡ Less) menu
  pub offered : (entry : Group × List ℕ) → Contains menu entry → IsOffered g lexicon tokens entry
  pub whole : (entry : Group × List ℕ) → IsUtf8 entry.1 → IsOffered g lexicon tokens entry → Contains menu entry

-- the greatest number for which so many tokens, from the first on, are typeable; 0 where there is none
pub record IsTypeableCount (g : GrammarParts) (lexicon : Listed) (tokens : List (List ℕ)) (count : ℕ) : Type 0 where
  pub within : count ≤ length tokens
  pub typeable : 0 < count → IsTypeable g lexicon (take count tokens)
  pub greatest : (longer : ℕ) → longer ≤ length tokens → IsTypeable g lexicon (take longer tokens) → longer ≤ count
