use Rattle.std.proofs.Common.{◌≡◌}
use Rattle.logic_terms.specs.Known.{theory_of}
use Rattle.tableau_rules.specs.Shown.{graph_of}
use Rattle.tableau_rules.specs.Blocking.{climb, blocks}
use Rattle.tableau_rules.proofs.blocking.some_blocks.Given as goal

abbrev pub invariant-loop-left : goal.invariant-loop-left
invariant-loop-left l = blocks (theory_of l.k) (graph_of l.b) (climb l.fn.count (graph_of l.b) l.fn.node)
    ≡ blocks (theory_of l.k) (graph_of l.b) (climb l.left (graph_of l.b) l.at)

abbrev pub decreases-loop-left : goal.decreases-loop-left
decreases-loop-left l = l.left
