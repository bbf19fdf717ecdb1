use Rattle.std.proofs.Common.{◌≡◌, ◌+◌, ◌*◌, ◌++◌, max, map, drop, Ok}
use Rattle.logic_terms.specs.declared.structures.Cond.TheViews.{size-Cond, size-Conds, size-Drs}
use Rattle.logic_terms.specs.Shown.{conditions_of}
use Rattle.logic_terms.specs.Structure.{conditions_from}
use Rattle.ace_to_owl.specs.Answers.{part_shown}
use Rattle.ace_to_owl.specs.Outcomes.{next}
use Rattle.ace_to_owl.specs.Rolling.{parts}
use Rattle.ace_to_owl.proofs.rolling.+rolling.Given as goal

abbrev pub decreases-roll : goal.decreases-roll
decreases-roll l = size-Drs l.drs.now * 6

abbrev pub decreases-rolled : goal.decreases-rolled
decreases-rolled l = size-Conds l.conditions.now * 6 + 1

abbrev pub decreases-rolled_without : goal.decreases-rolled_without
decreases-rolled_without l = max (size-Conds l.conditions.now) (size-Drs l.right.now) * 6 + 2

abbrev pub decreases-parts_of : goal.decreases-parts_of
decreases-parts_of l = size-Conds l.conditions.now * 6

abbrev pub decreases-part_of : goal.decreases-part_of
decreases-part_of l = size-Cond l.condition.now * 6

abbrev pub decreases-not_part : goal.decreases-not_part
decreases-not_part l = size-Drs l.inner.now * 6 + 1

abbrev pub decreases-or_part : goal.decreases-or_part
decreases-or_part l = max (size-Drs l.left.now) (size-Drs l.right.now) * 6 + 1

abbrev pub decreases-implies_part : goal.decreases-implies_part
decreases-implies_part l = max (size-Drs l.left.now) (size-Drs l.right.now) * 6 + 4

abbrev pub decreases-roll_without : goal.decreases-roll_without
decreases-roll_without l = max (size-Drs l.left.now) (size-Drs l.right.now) * 6 + 3

-- what is left decides
abbrev pub invariant-parts_of-loop-place : goal.invariant-parts_of-loop-place
invariant-parts_of-loop-place l =
    next (parts l.root l.referents (conditions_from (drop l.place (conditions_of l.conditions)))) (λ ps. Ok (map part_shown l.given ++ ps))
    ≡ parts l.root l.referents (conditions_from (conditions_of l.conditions))
