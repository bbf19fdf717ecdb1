use Rattle.std.proofs.Common.{◌≡◌, drop}
use Rattle.owl_eval.specs.Given.{lists_in}
use Rattle.branch_model.specs.Related.{pairs_in}
use Rattle.branch_model.proofs.extents.pairs_of.Given as goal

abbrev pub invariant-loop-entry : goal.invariant-loop-entry
invariant-loop-entry l = pairs_in (lists_in (drop l.entry-index l.made)) l.word ≡ pairs_in (lists_in l.made) l.word
