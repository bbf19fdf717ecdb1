use Rattle.std.proofs.Common.{◌≡◌, drop}
use Rattle.derivation_trees.specs.Sketches as sketches
use Rattle.derivation_trees.specs.SketchesHeld.{sketch_held, children_held}
use Rattle.derivation_trees.proofs.sketch.+sketch.Given as goal

abbrev pub invariant-sketch_over-loop-element : goal.invariant-sketch_over-loop-element
invariant-sketch_over-loop-element l =
    sketches.sketch_over l.setting (drop l.element-index l.body) (sketch_held (children_held l.setting l.tree) l.sketch)
    ≡ sketches.sketch_over l.setting l.body (sketch_held (children_held l.setting l.tree) l.fn.start)
