-- What an editor holds, and what typing does to its tokens.
use Rattle.std.specs.Prelude.{◌≡◌, ℕ, ◌≤◌, List, [], ◌∷◌, length}
use Rattle.wiki_base.specs.declared.tokens.TheConstants.{MOST_TOKENS}
use Rattle.codeco_terms.specs.GrammarParts.{GrammarParts}
use Rattle.lexicon.specs.Words.{Listed}
use Rattle.derivation_trees.specs.declared.menus.Group.{Group}
use Rattle.derivation_trees.specs.Settings.{Setting}
use Rattle.derivation_trees.specs.Cutting.{read_first}
use Rattle.derivation_trees.specs.Partial.{CutNode, IsPartialDerivation}
use Rattle.derivation_trees.specs.Menus.{IsOffered}
use Rattle.chart.specs.Charts.{first_of}

-- by the grammar and the readings that are kept, the tokens and each of their prefixes have a partial derivation
abbrev pub IsTypeableAsKept : Setting → Type 0
IsTypeableAsKept s = (count : ℕ) → count ≤ length s.tokens → (cut : CutNode) × IsPartialDerivation (first_of s count) cut

-- at most 40 tokens, each with its readings, which are typeable by the grammar and the readings that are kept
pub record IsEdited (s : Setting) : Type 0 where
  pub few : length s.tokens ≤ MOST_TOKENS
  pub read : length s.readings ≡ length s.tokens
  pub typeable : IsTypeableAsKept s

-- the token that a text is typed as: a first one is read as at the start of a sentence, where a terminal may stand with its
-- first letter raised
abbrev pub typed : List (List ℕ) → List (List ℕ) → List ℕ → List ℕ
typed terminals [] text = read_first terminals text
typed terminals (token ∷ tokens) text = text

-- the token is in the menu of the tokens, in one of the groups
abbrev pub IsInMenu : GrammarParts → Listed → List (List ℕ) → List ℕ → Type 0
IsInMenu g lexicon tokens token = (group : Group) × IsOffered g lexicon tokens (group, token)
