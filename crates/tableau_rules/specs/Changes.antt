-- A change to a branch. Only private calls speak of it.
use Rattle.logic_terms.specs.Shown.{concepts_of}
use Rattle.tableau_rules.specs.declared.changes.Change.{Change}
use Rattle.tableau_rules.specs.declared.changes.Change.TheVariants as change
use Rattle.tableau_rules.specs.Graph.{Graph}
use Rattle.tableau_rules.specs.Rules.{grown, with_edge, with_node}
use Rattle.tableau_rules.specs.Shown.{vertex_of}

-- a branch after a change
abbrev pub changed : Graph → Change → Graph
changed g change.Nothing = g
changed g (change.Classes node more) = grown g node (concepts_of more)
changed g (change.Edge edge) = with_edge g edge
changed g (change.Node node edge) = with_node g (vertex_of node) edge
