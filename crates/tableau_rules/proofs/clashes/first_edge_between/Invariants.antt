use Rattle.std.proofs.Common.{◌≡◌, false, take}
use Rattle.std.specs.List.{list_any}
use Rattle.logic_terms.specs.Known.{theory_of}
use Rattle.tableau_rules.specs.Neighbours.{makes_neighbour}
use Rattle.tableau_rules.specs.Shown.{graph_of}
use Rattle.tableau_rules.proofs.clashes.first_edge_between.Given as goal

abbrev pub invariant-loop-place : goal.invariant-loop-place
invariant-loop-place l = list_any (makes_neighbour (theory_of l.k) l.role l.from l.to) (take l.place (graph_of l.b).edges) ≡ false
