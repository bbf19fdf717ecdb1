use Rattle.std.proofs.Common.{◌≡◌, false}
use Rattle.std.specs.List.{list_any}
use Rattle.logic_terms.specs.Known.{theory_of}
use Rattle.logic_terms.specs.Meaning.{some_below}
use Rattle.tableau_rules.specs.Clashes.{clashes_at}
use Rattle.tableau_rules.specs.Graph.{label_at}
use Rattle.tableau_rules.specs.Shown.{graph_of}
use Rattle.tableau_rules.proofs.clashes.clash_of_nodes.Given as goal

abbrev pub invariant-loop-node : goal.invariant-loop-node
invariant-loop-node l = some_below l.node (λ x. list_any (clashes_at (theory_of l.k) (graph_of l.b) x) (label_at (graph_of l.b) x)) ≡ false
