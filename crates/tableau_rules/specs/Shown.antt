-- What a contract sees of a branch.
use Rattle.std.specs.Prelude.{map}
use Rattle.logic_terms.specs.Shown.{concepts_of}
use Rattle.tableau_rules.specs.declared.branch.Branch.{Branch}
use Rattle.tableau_rules.specs.declared.branch.Node.{Node}
use Rattle.tableau_rules.specs.Graph.{Graph, Vertex}

abbrev pub vertex_of : Node → Vertex
vertex_of n = record { parent = n.parent; label = concepts_of n.label }

abbrev pub graph_of : Branch → Graph
graph_of b = record { nodes = map vertex_of b.nodes.items; edges = b.edges }
