use Rattle.std.proofs.Common.{◌≡◌, ◌++◌, drop, map}
use Rattle.logic_terms.specs.Known.{theory_of}
use Rattle.tableau_rules.specs.Branches.{asserted, first_node}
use Rattle.tableau_rules.specs.Neighbours.{roots, roots_in}
use Rattle.tableau_rules.specs.Shown.{vertex_of}
use Rattle.tableau_rules.proofs.starting.named_nodes.Given as goal

abbrev pub invariant-loop-entry : goal.invariant-loop-entry
invariant-loop-entry l = map (λ r. first_node (theory_of l.k) (asserted (theory_of l.k) r)) (roots (theory_of l.k))
    ≡ map vertex_of l.nodes.items ++ map (λ r. first_node (theory_of l.k) (asserted (theory_of l.k) r)) (roots_in (drop l.entry-index l.entry-items))
