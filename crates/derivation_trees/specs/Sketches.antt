-- The skeleton of a tree by its parts alone, where each token takes one place.
use Rattle.std.specs.Prelude.{◌≡◌, ℕ, ◌+◌, List, [], ◌∷◌, ◌++◌}
use Rattle.std.specs.Option.{option_map_or}
use Rattle.wiki_base.specs.declared.numbers.WordId.{WordId}
use Rattle.codeco_terms.specs.declared.elements.Element.{Element}
use Rattle.codeco_terms.specs.declared.elements.Element.TheVariants.{Terminal, Preterminal, Sub}
use Rattle.codeco_terms.specs.GrammarParts.{GrammarParts}
use Rattle.derivation_trees.specs.declared.skeletons.Skeleton.{Skeleton, out-Skeleton}
use Rattle.derivation_trees.specs.Trees.{Node, Nodes, node, none, more}
use Rattle.derivation_trees.specs.Settings.{Setting}
use Rattle.derivation_trees.specs.Derives.{rule_with}
use Rattle.derivation_trees.specs.Skeletons.{word_at, skeleton}

-- what a child is at a place
abbrev pub Later : Type 0
Later = ℕ → Skeleton

-- a node of which some elements are sketched: the place there, the words and the children so far, and what the children to
-- come are at a place
pub record Sketch : Type 0 where
  pub place : ℕ
  pub words : List WordId
  pub children : List Skeleton
  pub left : List (ℕ → Skeleton)

-- a token
abbrev pub sketch_token : List WordId → Sketch → Sketch
sketch_token words k = record { place = k.place + 1; words = k.words ++ words; children = k.children; left = k.left }

-- the next child
abbrev pub sketch_child : List (ℕ → Skeleton) → Sketch → Sketch
sketch_child [] k = k
sketch_child (child ∷ left) k =
    record { place = (out-Skeleton (child k.place)).end; words = k.words; children = k.children ++ child k.place ∷ []; left = left }

abbrev pub sketch_on : Setting → Element → Sketch → Sketch
sketch_on s (Terminal t) k = sketch_token [] k
sketch_on s (Preterminal c) k = sketch_token (word_at s k.place ∷ []) k
sketch_on s (Sub c) k = sketch_child k.left k
sketch_on _ _ k = k

abbrev pub sketch_over : Setting → List Element → Sketch → Sketch
sketch_over s [] k = k
sketch_over s (e ∷ es) k = sketch_over s es (sketch_on s e k)

-- the elements of the rule with the number
abbrev pub body_of : GrammarParts → ℕ → List Element
body_of g number = option_map_or (λ rule. rule.body) (rule_with g number) []

-- the skeleton that is sketched
abbrev pub sketched : ℕ → List ℕ → ℕ → Sketch → Skeleton
sketched number found place k = skeleton number place k.place found k.words k.children

-- a sketch before the first element
abbrev pub sketch_from : ℕ → List (ℕ → Skeleton) → Sketch
sketch_from place left = record { place = place; words = []; children = []; left = left }

abbrev mutual
  -- the skeleton of a tree at a place
  pub sketch_of : Setting → Node → ℕ → Skeleton
  sketch_of s (node number values found children) place =
      sketched number found place (sketch_over s (body_of s.grammar number) (sketch_from place (sketches_of s children)))

  pub sketches_of : Setting → Nodes → List (ℕ → Skeleton)
  sketches_of s none = []
  sketches_of s (more n ns) = sketch_of s n ∷ sketches_of s ns
