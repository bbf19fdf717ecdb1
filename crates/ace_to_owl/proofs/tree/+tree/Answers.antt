use Rattle.std.proofs.Common.{◌-◌, ◌<◌, List, ◌++◌, map, ap, ◌∙◌, arith}
use Rattle.logic_terms.specs.Shown.{concepts_of}
use Rattle.ace_to_owl.specs.Answers.{part_shown, listed}
use Rattle.ace_to_owl.specs.Parts.{Part, part_at, class_at}
use Rattle.ace_to_owl.proofs.TreeLemmas.{gift_on, gifts_all, class_at-depth}
use Rattle.ace_to_owl.proofs.tree.+tree.Goals as goal

pub class_at-loop-part-preserved : goal.class_at-loop-part-preserved
class_at-loop-part-preserved t c =
    let ps : List Part = map part_shown c.args.parts.now in
    let way = c.push.new.self in
    record {
      left = gift_on part_shown (part_at (class_at (c.args.depth - 1) ps way) way c.args.node) c.args.parts.now c.loop-part.part-index c.part-item.result
          (concepts_of c.loop-part.classes) (concepts_of c.push_some.new.classes) c.loop-part-test.true c.part-item.is
          (c.in_ok-push_some.ensures
          ∙ ap (λ o. concepts_of c.loop-part.classes ++ listed o)
          (c.in_ok-class.ensures.class ∙ ap (λ w. part_at (class_at (c.args.depth - 1) ps w) w c.args.node (part_shown c.part-item.result))
          c.loop-part.invariant.kept))
          c.loop-part.invariant.left;
      kept = c.in_ok-class.ensures.kept ∙ c.loop-part.invariant.kept;
    }

pub class_at-returns-clause-class : goal.class_at-returns-clause-class
class_at-returns-clause-class t c =
    let ps : List Part = map part_shown c.args.parts.now in
    let way = c.push.new.self in
    let positive : 0 < c.args.depth = omega (arith, c.if-depth-eq0.false) in
    c.intersection.ensures
    ∙ class_at-depth c.args.depth ps c.args.way.now way c.args.node (concepts_of c.loop-part.classes) positive c.in_ok-push.ensures.ok
    (gifts_all part_shown (part_at (class_at (c.args.depth - 1) ps way) way c.args.node) c.args.parts.now c.loop-part.part-index
    (concepts_of c.loop-part.classes) c.loop-part-test.false c.loop-part.invariant.left)
