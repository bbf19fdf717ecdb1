use Rattle.std.proofs.Common.{◌≡◌, None}
use Rattle.logic_terms.specs.Known.{theory_of}
use Rattle.tableau_rules.specs.First.{first_below}
use Rattle.tableau_rules.specs.Rules.{first_at}
use Rattle.tableau_rules.specs.Shown.{graph_of}
use Rattle.tableau_rules.proofs.finder.first_by.Given as goal

abbrev pub invariant-loop-node : goal.invariant-loop-node
invariant-loop-node l = first_below l.node (first_at (theory_of l.k) (graph_of l.b) l.rule) ≡ None
