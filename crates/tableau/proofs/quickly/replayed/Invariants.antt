use Rattle.logic_terms.specs.Known.{theory_of}
use Rattle.tableau_rules.specs.Branches.{IsBranch}
use Rattle.tableau_rules.specs.Shown.{graph_of}
use Rattle.tableau.proofs.quickly.replayed.Given as goal

abbrev pub invariant-loop-taken : goal.invariant-loop-taken
invariant-loop-taken l = IsBranch (theory_of l.k) (graph_of l.b)
