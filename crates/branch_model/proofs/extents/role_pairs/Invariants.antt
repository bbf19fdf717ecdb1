use Rattle.std.proofs.Common.{◌≡◌, [], drop}
use Rattle.logic_terms.specs.Known.{theory_of}
use Rattle.owl_eval.specs.Given.{lists_in}
use Rattle.branch_model.specs.Extents.{links}
use Rattle.branch_model.proofs.extents.role_pairs.Given as goal

abbrev pub invariant-loop-edge : goal.invariant-loop-edge
invariant-loop-edge l = links (theory_of l.k) l.stands (drop l.edge-index l.edge-items) (lists_in l.made.items) ≡ links (theory_of l.k) l.stands l.edge-items []
