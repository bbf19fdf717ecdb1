use Rattle.std.proofs.Common.{◌≡◌, drop}
use Rattle.owl_eval.specs.Given.{lists_in}
use Rattle.branch_model.specs.Extents.{paired_all}
use Rattle.branch_model.proofs.extents.add_each.Given as goal

abbrev pub invariant-loop-pair : goal.invariant-loop-pair
invariant-loop-pair l = paired_all l.hierarchy l.role (drop l.pair-index l.pairs) (lists_in l.made.items)
    ≡ paired_all l.hierarchy l.role l.pairs (lists_in l.fn.made.items)
