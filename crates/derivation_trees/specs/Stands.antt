-- Where a node stands, as the program holds it.
use Rattle.std.specs.Prelude.{◌≡◌, ℕ, ◌≤◌, Bool, true, false, List, ◌++◌, length, map, drop, All, Option, Some, option_map}
use Rattle.codeco_terms.specs.declared.values.Value.{Value}
use Rattle.codeco_terms.specs.declared.elements.Element.{Element}
use Rattle.codeco_terms.specs.declared.elements.Element.TheVariants.{Sub, Forward, Strong, Back}
use Rattle.codeco_terms.specs.GrammarParts.{GrammarParts}
use Rattle.derivation_trees.specs.Instances.{features_of}
use Rattle.codeco_terms.specs.declared.rules.Rule.{Rule}
use Rattle.scopes.specs.declared.entries.Entry.{Entry}
use Rattle.derivation_trees.specs.declared.trees.Tree.{Tree, out-Tree}
use Rattle.derivation_trees.specs.Trees.{nodes_of}
use Rattle.derivation_trees.specs.Settings.{Setting}
use Rattle.derivation_trees.specs.Derives.{At, Stand, Phrase, phrase_of, rule_with}
use Rattle.derivation_trees.specs.declared.stand.Progress.{Progress}

-- the stand that the program holds, with the phrases of the children that are to come
abbrev pub stand_of : List Phrase → Progress → Stand
stand_of children progress = record {
  at = record { place = progress.place; list = progress.list };
  found = progress.found.now;
  own = progress.own.now;
  children = children;
}

-- an element within the limits of grammars: sixteen features of a category, and sixteen patterns of a reference
abbrev pub IsWithin : GrammarParts → Element → Type 0
IsWithin g (Forward c) = length (features_of g c.name) ≤ 16
IsWithin g (Strong c) = length (features_of g c.name) ≤ 16
IsWithin g (Back positive negative) = length positive ≤ 16
IsWithin _ _ = Unit {0}

-- the element is a category
abbrev pub is_sub : Element → Bool
is_sub (Sub c) = true
is_sub _ = false

-- what the program gives of a stand that may fail, whatever children are to come
abbrev pub IsStand : (List Phrase → Option Stand) → Option Progress → Type 0
IsStand given held = (children : List Phrase) → option_map (stand_of children) held ≡ given children

-- the list begins with the other
pub record Begins (before after : List Entry) : Type 0 where
  pub added : List Entry
  pub is : after ≡ before ++ added

-- the parts of a tree
abbrev pub values_in : Tree → List (ℕ × Value)
values_in tree = (out-Tree tree).values

abbrev pub found_in : Tree → List ℕ
found_in tree = (out-Tree tree).found

-- what the children of a tree do, in order
abbrev pub children_of : Setting → Tree → List Phrase
children_of s tree = map (phrase_of s) (nodes_of (out-Tree tree).children)

-- where the program stands in a tree: so many of its children are used
abbrev pub standing : List Phrase → Progress × ℕ → Stand
standing children held = stand_of (drop held.1 children) held.0

-- the place and the list that the program gives
abbrev pub at_of : ℕ × List Entry → At
at_of held = record { place = held.0; list = held.1 }

-- every rule of the grammar is within the limits
abbrev pub IsLimited : GrammarParts → Type 0
IsLimited g = (n : ℕ) (rule : Rule) → rule_with g n ≡ Some rule → All (IsWithin g) rule.body
