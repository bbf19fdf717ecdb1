use Rattle.std.proofs.Common.{ℕ, ◌<◌}
use Rattle.logic_terms.specs.Known.{theory_of}
use Rattle.tableau_rules.specs.Shown.{graph_of}
use Rattle.agenda.specs.Views.{is_listed, Lists, IsWaitedFor}
use Rattle.agenda.proofs.waiting.wait_for_servers.Given as goal

abbrev pub invariant-loop-place : goal.invariant-loop-place
invariant-loop-place l = record {
  more : Lists l.initial.waiting.items l.waiting.items;
  so_far : (place : ℕ) → place < l.place → IsWaitedFor (theory_of l.k) (graph_of l.b) (is_listed l.waiting.items) l.node place;
}
