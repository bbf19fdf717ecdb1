use Rattle.std.proofs.Common.{◌≡◌, map, drop}
use Rattle.logic_terms.specs.Known.{theory_of}
use Rattle.tableau_rules.specs.Shown.{graph_of}
use Rattle.tableau_rules.specs.Trees.{tree_of}
use Rattle.closure_check.specs.Firsts.{close_firsts}
use Rattle.closure_check.proofs.accepting.+closing.Given as goal

abbrev pub invariant-close_firsts-loop-subtree : goal.invariant-close_firsts-loop-subtree
invariant-close_firsts-loop-subtree l = record {
  counted : l.choice ≡ l.subtree-index;
  left_decides : close_firsts (theory_of l.k) (graph_of l.b) l.step 0 (map tree_of l.firsts)
      ≡ close_firsts (theory_of l.k) (graph_of l.b) l.step l.choice (map tree_of (drop l.subtree-index l.firsts));
}
