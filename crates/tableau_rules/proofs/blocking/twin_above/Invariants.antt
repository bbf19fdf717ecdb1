use Rattle.std.proofs.Common.{◌≡◌}
use Rattle.logic_terms.specs.Known.{theory_of}
use Rattle.tableau_rules.specs.Shown.{graph_of}
use Rattle.tableau_rules.specs.Blocking.{climb, has_twin}
use Rattle.tableau_rules.proofs.blocking.twin_above.Given as goal

abbrev pub invariant-loop-left : goal.invariant-loop-left
invariant-loop-left l = has_twin (theory_of l.k) (graph_of l.b) l.node (climb l.fn.count (graph_of l.b) l.node)
    ≡ has_twin (theory_of l.k) (graph_of l.b) l.node (climb l.left (graph_of l.b) l.at)

abbrev pub decreases-loop-left : goal.decreases-loop-left
decreases-loop-left l = l.left
