use Rattle.std.proofs.Common.{◌≡◌, ◌++◌, drop}
use Rattle.std.specs.List.{filter_map}
use Rattle.logic_terms.specs.Known.{theory_of}
use Rattle.tableau_rules.specs.Branches.{first_edge}
use Rattle.tableau_rules.specs.Shown.{graph_of}
use Rattle.tableau_rules.proofs.starting.join_first_edges.Given as goal

abbrev pub invariant-loop-entry : goal.invariant-loop-entry
invariant-loop-entry l = record {
  nodes : (graph_of l.joined).nodes ≡ (graph_of l.fn.b).nodes;
  left_decides : (graph_of l.fn.b).edges ++ filter_map (first_edge (theory_of l.k)) (theory_of l.k).edges
      ≡ (graph_of l.joined).edges ++ filter_map (first_edge (theory_of l.k)) (drop l.entry-index l.entry-items);
}
