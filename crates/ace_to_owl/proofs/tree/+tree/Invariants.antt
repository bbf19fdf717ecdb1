use Rattle.std.proofs.Common.{◌≡◌, ◌+◌, ◌-◌, ◌*◌, ◌++◌, map, drop}
use Rattle.std.specs.List.{filter_map}
use Rattle.logic_terms.specs.Shown.{concepts_of}
use Rattle.ace_to_owl.specs.Answers.{part_shown}
use Rattle.ace_to_owl.specs.Parts.{part_at, class_at}
use Rattle.ace_to_owl.proofs.tree.+tree.Given as goal

abbrev pub decreases-class_at : goal.decreases-class_at
decreases-class_at l = l.depth * 2

abbrev pub decreases-part_at : goal.decreases-part_at
decreases-part_at l = l.depth * 2 + 1

abbrev pub invariant-class_at-loop-part : goal.invariant-class_at-loop-part
invariant-class_at-loop-part l = record {
  left : concepts_of l.classes ++ filter_map (part_at (class_at (l.depth - 1) (map part_shown l.parts) l.initial.way) l.initial.way l.node)
      (drop l.part-index (map part_shown l.parts))
      ≡ filter_map (part_at (class_at (l.depth - 1) (map part_shown l.parts) l.initial.way) l.initial.way l.node) (map part_shown l.parts);
  kept : l.way ≡ l.initial.way;
}
