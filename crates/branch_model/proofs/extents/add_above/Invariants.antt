use Rattle.std.proofs.Common.{◌≡◌, drop}
use Rattle.owl_eval.specs.Given.{lists_in}
use Rattle.branch_model.specs.Extents.{paired_above}
use Rattle.branch_model.proofs.extents.add_above.Given as goal

abbrev pub invariant-loop-pair : goal.invariant-loop-pair
invariant-loop-pair l = paired_above (drop l.pair-index l.hierarchy) l.role l.from l.to (lists_in l.made.items)
    ≡ paired_above l.hierarchy l.role l.from l.to (lists_in l.fn.made.items)
