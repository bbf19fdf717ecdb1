-- The skeletons of derivations, and the least one.
use Rattle.std.specs.Prelude.{◌≡◌, ◌≢◌, ℕ, List, [], ◌∷◌, ◌++◌, slice_get}
use Rattle.std.specs.Option.{option_map_or}
use Rattle.std.specs.declared.cmp.Ordering.TheVariants.{Less}
use Rattle.std.specs.Ordering.{nat_cmp}
use Rattle.std.specs.Cmp.Lexicographic.{slice_cmp}
use Rattle.wiki_base.specs.declared.numbers.WordId.{WordId}
use Rattle.codeco_terms.specs.declared.values.Value.{Value}
use Rattle.codeco_terms.specs.declared.values.Value.TheVariants.{Atom, Word, Pos}
use Rattle.codeco_terms.specs.declared.categories.Ground.{Ground}
use Rattle.codeco_terms.specs.declared.elements.Element.{Element}
use Rattle.codeco_terms.specs.declared.elements.Element.TheVariants.{Preterminal, Sub}
use Rattle.codeco_terms.specs.declared.rules.Rule.{Rule}
use Rattle.codeco_terms.specs.GrammarParts.{GrammarParts}
use Rattle.lexicon.specs.Words.{Listed}
use Rattle.derivation_trees.specs.declared.skeletons.Skeleton.{Skeleton}
use Rattle.derivation_trees.specs.declared.skeletons.Skeleton.TheViews.{roll-Skeleton}
use Rattle.derivation_trees.specs.Codes.{skeleton_code}
use Rattle.derivation_trees.specs.Trees.{Node, Nodes, node, none, more}
use Rattle.derivation_trees.specs.Settings.{Setting}
use Rattle.derivation_trees.specs.Instances.{looked_up, own_values}
use Rattle.derivation_trees.specs.Derives.{At, Phrase, Stand, pass, run, rule_with, phrases_of, IsDerivation}
use Rattle.derivation_trees.specs.Sentences.{setting_of}

-- the word that a value is
abbrev pub word_of_value : Value → WordId
word_of_value (Atom a) = record { 0 = 0 }
word_of_value (Word w) = w
word_of_value (Pos p) = record { 0 = 0 }

-- the word of a reading: the value of its feature 3
abbrev pub word_among : List (ℕ × Value) → WordId
word_among vals = option_map_or word_of_value (looked_up vals 3) (record { 0 = 0 })

-- The word of which a token is a form, by its readings: the feature 3 of a reading is its word, and all readings of a token
-- have the same one, since no two words share a form.
abbrev pub word_in : List Ground → WordId
word_in [] = record { 0 = 0 }
word_in (reading ∷ others) = word_among reading.vals

-- the word of which the token at the place is a form
abbrev pub word_at : Setting → ℕ → WordId
word_at s place = option_map_or word_in (slice_get s.readings place) (record { 0 = 0 })

-- the word of a preterminal, whose token stands at the present place
abbrev pub word_here : Setting → Element → At → List WordId
word_here s (Preterminal c) at = word_at s at.place ∷ []
word_here _ _ _ = []

-- the place and the list from which the child of a category starts
abbrev pub child_here : Element → At → List At
child_here (Sub c) at = at ∷ []
child_here _ _ = []

-- what is met on the way over elements from left to right, where each shows something at the place and list before it
abbrev pub met : {X : Type 0} → (Element → At → List X) → Setting → List (ℕ × Value) → List Element → Stand → List X
met shows s values [] stand = []
met shows s values (e ∷ es) stand = shows e stand.at ++ option_map_or (met shows s values es) (pass s values e stand) []

-- the stand of a node before its first element
abbrev pub start : Rule → List (ℕ × Value) → List ℕ → List Phrase → At → Stand
start rule values found children at = record { at = at; found = found; own = own_values rule values; children = children }

-- the place after the last element
abbrev pub end_place : Setting → Rule → List (ℕ × Value) → Stand → ℕ
end_place s rule values stand = option_map_or (λ after. after.at.place) (run s values rule.body stand) stand.at.place

-- a skeleton of these parts
abbrev pub skeleton : ℕ → ℕ → ℕ → List ℕ → List WordId → List Skeleton → Skeleton
skeleton rule first after found words children =
    roll-Skeleton (record { rule = rule; start = first; end = after; found = found; words = words; children = children })

abbrev mutual
  -- The skeleton of a tree that starts at a place with a list: the number of its rule, where it starts and ends, the found
  -- positions, the word of each preterminal of its rule, and the skeletons of its children.
  pub skeleton_at : Setting → Node → At → Skeleton
  skeleton_at s (node number values found children) at =
      option_map_or
      (λ rule. skeleton number at.place (end_place s rule values (start rule values found (phrases_of s children) at)) found
      (met (word_here s) s values rule.body (start rule values found (phrases_of s children) at))
      (skeletons_at s children (met child_here s values rule.body (start rule values found (phrases_of s children) at))))
      (rule_with s.grammar number)
      (skeleton number at.place at.place found [] [])

  -- the skeletons of trees, each from its own place and list
  pub skeletons_at : Setting → Nodes → List At → List Skeleton
  skeletons_at s none ats = []
  skeletons_at s (more n ns) [] = []
  skeletons_at s (more n ns) (at ∷ ats) = skeleton_at s n at ∷ skeletons_at s ns ats

-- the skeleton of a derivation
abbrev pub skeleton_of : Setting → Node → Skeleton
skeleton_of s tree = skeleton_at s tree (record { place = 0; list = [] })

-- the code of the one is below that of the other, in lexicographic order
abbrev pub IsBelow : Skeleton → Skeleton → Type 0
IsBelow one other = slice_cmp nat_cmp (skeleton_code one) (skeleton_code other) ≡ Less

-- the skeleton is that of a derivation, and no derivation has one whose code is below
pub record IsLeast (s : Setting) (least : Skeleton) : Type 0 where
  pub tree : Node
  pub derives : IsDerivation s tree
  pub is : least ≡ skeleton_of s tree
  pub none_below : (other : Node) → IsDerivation s other → IsBelow (skeleton_of s other) least → ⊥

-- the least skeleton of tokens by a grammar and a lexicon
abbrev pub IsLeastSkeleton : GrammarParts → Listed → List (List ℕ) → Skeleton → Type 0
IsLeastSkeleton g lexicon tokens least = IsLeast (setting_of g lexicon tokens) least
