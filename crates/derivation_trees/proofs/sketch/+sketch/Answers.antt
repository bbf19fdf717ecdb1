use Rattle.std.proofs.Common.{◌≡◌, sym, ap, ◌∙◌}
use Rattle.std.proofs.lemmas.Result.{IfOk-weaker}
use Rattle.derivation_trees.specs.Trees.{node_of}
use Rattle.derivation_trees.specs.Stands.{found_in}
use Rattle.derivation_trees.specs.Sketches as sketches
use Rattle.derivation_trees.specs.SketchesHeld.{children_held, rule_in}
use Rattle.derivation_trees.proofs.SketchLemmas.{sketch_of_is, child_sketched}
use Rattle.derivation_trees.proofs.sketch.+sketch.Goals as goal

pub sketch_of-returns : goal.sketch_of-returns
sketch_of-returns t c =
    let s = c.args.setting.now in
    let tree = c.args.tree.now in
    IfOk-weaker c.finished.result _ _ (λ sk h. h (children_held s tree)
    ∙ ap (sketches.sketched (rule_in tree) (found_in tree) c.args.place) c.in_ok-sketch.ensures ∙ sym (sketch_of_is s tree c.args.place)) c.finished.ensures

pub sketch_on-returns-in_ok-child-in-Sub : goal.sketch_on-returns-in_ok-child-in-Sub
sketch_on-returns-in_ok-child-in-Sub t c =
    let s = c.args.setting.now in
    let tree = c.args.tree.now in
    IfOk-weaker c.sketch_child.result _ _
    (λ after h. child_sketched s tree c.args.element.now c.in-Sub.field-0 (node_of c.get.result.now) c.in_ok-child-in-Sub.child c.args.sketch after
    c.in-Sub.is c.get.ensures.item c.in_ok-child-in-Sub.ensures h) c.sketch_child.ensures
