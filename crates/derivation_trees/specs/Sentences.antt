-- What a derivation of tokens by a grammar and a lexicon is.
use Rattle.std.specs.Prelude.{ℕ, List, map}
use Rattle.codeco_terms.specs.GrammarParts.{GrammarParts}
use Rattle.lexicon.specs.Words.{Listed}
use Rattle.lexicon.specs.Readings.{readings_of}
use Rattle.derivation_trees.specs.Trees.{Node}
use Rattle.derivation_trees.specs.Settings.{Setting}
use Rattle.derivation_trees.specs.Derives.{IsDerivation}

-- the grammar, the tokens and their readings as forms of the live words
abbrev pub setting_of : GrammarParts → Listed → List (List ℕ) → Setting
setting_of g lexicon tokens = record { grammar = g; tokens = tokens; readings = map (readings_of lexicon.live) tokens }

-- the tokens have a derivation
abbrev pub IsSentence : GrammarParts → Listed → List (List ℕ) → Type 0
IsSentence g lexicon tokens = (tree : Node) × IsDerivation (setting_of g lexicon tokens) tree
