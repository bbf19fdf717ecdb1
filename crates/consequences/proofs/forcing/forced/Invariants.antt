use Rattle.logic_terms.specs.Known.{theory_of}
use Rattle.tableau_rules.specs.Shown.{graph_of}
use Rattle.consequences.specs.Forced.{IsForced}
use Rattle.consequences.proofs.forcing.forced.Given as goal

abbrev pub invariant-loop-taken : goal.invariant-loop-taken
invariant-loop-taken l = IsForced (theory_of l.k) (graph_of l.b)
