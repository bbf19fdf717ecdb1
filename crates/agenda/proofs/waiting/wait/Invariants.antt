use Rattle.std.proofs.Common.{◌≡◌, ℕ, Bool, true}
use Rattle.tableau_rules.specs.Blocking.{climb}
use Rattle.tableau_rules.specs.Shown.{graph_of}
use Rattle.agenda.specs.Resting.{waits_for, way_up}
use Rattle.agenda.specs.Views.{is_listed, Lists}
use Rattle.agenda.proofs.waiting.wait.Given as goal

abbrev pub invariant-loop-left : goal.invariant-loop-left
invariant-loop-left l = record {
  more : Lists l.fn.waiting.items l.waiting.items;
  left_decides : (waits : ℕ → ℕ → Bool) → ((z x : ℕ) → is_listed l.waiting.items z x ≡ true → waits z x ≡ true)
      → waits_for waits l.item (climb l.left (graph_of l.b) l.at) ≡ true → waits_for waits l.item (way_up (graph_of l.b) l.fn.from) ≡ true;
}

abbrev pub decreases-loop-left : goal.decreases-loop-left
decreases-loop-left l = l.left
