-- Sketches as the program holds them. Only private calls speak of it.
use Rattle.std.specs.Prelude.{ℕ, List, map, drop}
use Rattle.derivation_trees.specs.declared.sketch.Sketch.{Sketch}
use Rattle.derivation_trees.specs.declared.trees.Tree.{Tree, out-Tree}
use Rattle.derivation_trees.specs.Trees.{nodes_of}
use Rattle.derivation_trees.specs.Settings.{Setting}
use Rattle.derivation_trees.specs.Sketches as sketches

-- the number of a tree's rule
abbrev pub rule_in : Tree → ℕ
rule_in tree = (out-Tree tree).rule

-- what the children of a tree are at a place, in order
abbrev pub children_held : Setting → Tree → List sketches.Later
children_held s tree = map (sketches.sketch_of s) (nodes_of (out-Tree tree).children)

-- the sketch that the program holds, where these are all the children
abbrev pub sketch_held : List sketches.Later → Sketch → sketches.Sketch
sketch_held children sketch = record { place = sketch.place; words = sketch.words; children = sketch.children; left = drop sketch.used children }
