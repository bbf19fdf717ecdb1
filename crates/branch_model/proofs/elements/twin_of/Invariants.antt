use Rattle.std.proofs.Common.{◌≡◌, ◌≤◌, true, false, length}
use Rattle.logic_terms.specs.Known.{theory_of}
use Rattle.tableau_rules.specs.Neighbours.{roots}
use Rattle.tableau_rules.specs.Blocking.{has_twin, ancestors, is_indirectly_blocked}
use Rattle.tableau_rules.specs.Shown.{graph_of}
use Rattle.branch_model.proofs.elements.twin_of.Given as goal

abbrev pub invariant-loop-parent : goal.invariant-loop-parent
invariant-loop-parent l = record {
  low : l.at ≤ l.node;
  count : l.named ≡ length (roots (theory_of l.k));
  above : has_twin (theory_of l.k) (graph_of l.b) l.node (ancestors (graph_of l.b) l.at) ≡ true;
  free : is_indirectly_blocked (theory_of l.k) (graph_of l.b) l.at ≡ false;
}

abbrev pub decreases-loop-parent : goal.decreases-loop-parent
decreases-loop-parent l = l.at
