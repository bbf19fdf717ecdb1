-- What the codes of derivations tell.
use Rattle.std.specs.Prelude.{◌≡◌, ℕ, List, [], ◌++◌}
use Rattle.codeco_terms.specs.GrammarParts.{GrammarParts}
use Rattle.lexicon.specs.Words.{Listed}
use Rattle.derivation_trees.specs.Trees.{Node}
use Rattle.derivation_trees.specs.Derives.{IsDerivation}
use Rattle.derivation_trees.specs.Sentences.{setting_of}
use Rattle.derivation_trees.specs.Codes.{skeleton_code}
use Rattle.derivation_trees.specs.declared.skeletons.Skeleton.{Skeleton}
use Rattle.derivation_trees.specs.Skeletons.{skeleton_of, IsLeastSkeleton}
use Rattle.derivation_trees.specs.Sketches.{sketch_of}

-- Of the derivations by a grammar: for given tokens and lexicon the code determines the skeleton; no code is a beginning of
-- another one, whatever the tokens and lexicons; and the skeleton is the sketch of the tree from place 0.
pub record CodesTell (g : GrammarParts) : Type 0 where
  pub skeleton : (lexicon : Listed) (tokens : List (List ℕ)) (one other : Node) → IsDerivation (setting_of g lexicon tokens) one
      → IsDerivation (setting_of g lexicon tokens) other
      → skeleton_code (skeleton_of (setting_of g lexicon tokens) one) ≡ skeleton_code (skeleton_of (setting_of g lexicon tokens) other)
      → skeleton_of (setting_of g lexicon tokens) one ≡ skeleton_of (setting_of g lexicon tokens) other
  pub no_beginning : (lexicon lexicon' : Listed) (tokens tokens' : List (List ℕ)) (one other : Node) (more : List ℕ)
      → IsDerivation (setting_of g lexicon tokens) one → IsDerivation (setting_of g lexicon' tokens') other
      → skeleton_code (skeleton_of (setting_of g lexicon tokens) one) ++ more ≡ skeleton_code (skeleton_of (setting_of g lexicon' tokens') other) → more ≡ []
  pub sketch : (lexicon : Listed) (tokens : List (List ℕ)) (tree : Node) → IsDerivation (setting_of g lexicon tokens) tree
      → skeleton_of (setting_of g lexicon tokens) tree ≡ sketch_of (setting_of g lexicon tokens) tree 0

-- no other skeleton is a least one of the tokens
abbrev pub IsOnlyLeast : GrammarParts → Listed → List (List ℕ) → Skeleton → Type 0
IsOnlyLeast g lexicon tokens least = (other : Skeleton) → IsLeastSkeleton g lexicon tokens other → other ≡ least
