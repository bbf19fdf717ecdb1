use Rattle.std.proofs.Common.{take}
use Rattle.codeco_checked.specs.Numbering.{has}
use Rattle.codeco_late_faults.specs.Steps.{IsFollowed}
use Rattle.codeco_late_faults.proofs.recursion.follow.Given as goal

abbrev pub invariant-loop-category : goal.invariant-loop-category
invariant-loop-category l = IsFollowed (has (take l.category-index l.category-items)) l.initial.reached.items l.reached.items l.initial.waiting.items
    l.waiting.items
