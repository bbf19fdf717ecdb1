use Rattle.std.proofs.Common.{◌≡◌, take}
use Rattle.codeco_labels.specs.Shapes.{shape_of}
use Rattle.codeco_labels.proofs.shapes.Shape.of.Given as goal

abbrev pub invariant-loop-element : goal.invariant-loop-element
invariant-loop-element l = l.shape ≡ shape_of l.marks (take l.element-index l.body)
