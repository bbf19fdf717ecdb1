use Rattle.std.proofs.Common.{◌≡◌, true, length}
use Rattle.logic_terms.specs.Theory.{Theory}
use Rattle.tableau_rules.specs.Trees.{tree_of, closes}
use Rattle.tableau.specs.Ways.{Leads, reached}
use Rattle.tableau.proofs.WayLemmas.{IsShut}
use Rattle.tableau.proofs.turn.back.Given as goal

abbrev pub invariant-loop-last : goal.invariant-loop-last
invariant-loop-last l = (k : Theory) → Leads k l.fn.way → closes k (reached k l.fn.way).graph (tree_of l.fn.tree) ≡ true
    → IsShut k (reached k l.fn.way).waiting l.way l.closed

abbrev pub decreases-loop-last : goal.decreases-loop-last
decreases-loop-last l = length l.way
