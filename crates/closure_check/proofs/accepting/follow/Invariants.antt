use Rattle.logic_terms.specs.Known.{theory_of}
use Rattle.tableau_rules.specs.Shown.{graph_of}
use Rattle.closure_check.specs.Firsts.{Follows}
use Rattle.closure_check.proofs.accepting.follow.Given as goal

abbrev pub invariant-loop-step : goal.invariant-loop-step
invariant-loop-step l = Follows (theory_of l.k) (graph_of l.fn.b) l.closed (graph_of l.b) l.tree
