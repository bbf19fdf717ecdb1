use Rattle.std.specs.BTreeSet.{btree_set_len}
use Rattle.logic_terms.specs.Known.{theory_of}
use Rattle.tableau_rules.specs.Shown.{graph_of}
use Rattle.agenda.specs.Views.{FitsQueue}
use Rattle.agenda.proofs.queue.Queue.next.Given as goal

abbrev pub invariant-loop-node : goal.invariant-loop-node
invariant-loop-node l = FitsQueue (theory_of l.k) (graph_of l.b) l.rule l.self

abbrev pub decreases-loop-node : goal.decreases-loop-node
decreases-loop-node l = btree_set_len l.self.due
