use Rattle.std.proofs.Common.{ℕ, ◌<◌}
use Rattle.tableau_rules.specs.Shown.{graph_of}
use Rattle.agenda.specs.Views.{IsPut}
use Rattle.agenda.proofs.queue.Queue.full.Given as goal

abbrev pub invariant-loop-node : goal.invariant-loop-node
invariant-loop-node l = (x : ℕ) → x < l.node → IsPut (graph_of l.b) l.rule l.queue x
