use Rattle.logic_terms.specs.Known.{theory_of}
use Rattle.tableau_rules.specs.Shown.{graph_of}
use Rattle.branch_model.specs.Elements.{ArePlaced}
use Rattle.branch_model.proofs.elements.find_elements.Given as goal

abbrev pub invariant-loop-node : goal.invariant-loop-node
invariant-loop-node l = ArePlaced (theory_of l.k) (graph_of l.b) l.node l.owners.items l.stands.items
