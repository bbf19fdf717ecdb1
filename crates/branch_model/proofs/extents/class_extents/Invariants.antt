use Rattle.std.proofs.Common.{◌≡◌, [], drop}
use Rattle.owl_eval.specs.Given.{lists_in}
use Rattle.tableau_rules.specs.Shown.{graph_of}
use Rattle.branch_model.specs.Extents.{extents}
use Rattle.branch_model.proofs.extents.class_extents.Given as goal

abbrev pub invariant-loop-owner : goal.invariant-loop-owner
invariant-loop-owner l = record {
  counted : l.element ≡ l.owner-index;
  left_decides : extents (graph_of l.b) l.element (drop l.owner-index l.owners) (lists_in l.made.items) ≡ extents (graph_of l.b) 0 l.owners [];
}
