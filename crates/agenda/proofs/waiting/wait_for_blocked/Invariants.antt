use Rattle.std.proofs.Common.{take}
use Rattle.logic_terms.specs.Known.{theory_of}
use Rattle.tableau_rules.specs.Shown.{graph_of}
use Rattle.agenda.specs.Views.{is_listed, Lists}
use Rattle.agenda.proofs.Waits.{AreWaitedBy}
use Rattle.agenda.proofs.waiting.wait_for_blocked.Given as goal

abbrev pub invariant-loop-edge : goal.invariant-loop-edge
invariant-loop-edge l = record {
  more : Lists l.initial.waiting.items l.waiting.items;
  so_far : AreWaitedBy (theory_of l.k) (graph_of l.b) (is_listed l.waiting.items) l.node (take l.edge-index l.edge-items);
}
