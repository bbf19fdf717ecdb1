use Rattle.std.specs.Ordering.{nat_cmp}
use Rattle.owl_eval.specs.Given.{lists_in, AreArranged}
use Rattle.owl_eval.proofs.interp.extents.Given as goal

abbrev pub invariant-loop-word : goal.invariant-loop-word
invariant-loop-word l = AreArranged nat_cmp (lists_in l.yielded) l.made.items
