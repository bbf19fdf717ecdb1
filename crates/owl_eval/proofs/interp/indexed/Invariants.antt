use Rattle.owl_eval.specs.Pairs.{pair_cmp}
use Rattle.owl_eval.specs.Given.{lists_in, AreArranged}
use Rattle.owl_eval.proofs.interp.indexed.Given as goal

abbrev pub invariant-loop-word : goal.invariant-loop-word
invariant-loop-word l = AreArranged pair_cmp (lists_in l.yielded) l.made.items
