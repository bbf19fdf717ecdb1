use Rattle.std.proofs.Common.{◌≡◌, ℕ, ◌==◌, true, take}
use Rattle.std.specs.BTreeSet.{contains}
use Rattle.std.specs.List.{list_any}
use Rattle.std.specs.Ordering.{nat_cmp}
use Rattle.agenda.proofs.queue.insert_all.Given as goal

abbrev pub invariant-loop-node : goal.invariant-loop-node
invariant-loop-node l = record {
  there : (x : ℕ) → list_any (λ y. y == x) (take l.node-index l.nodes) ≡ true → contains nat_cmp l.due x ≡ true;
  kept : (x : ℕ) → contains nat_cmp l.initial.due x ≡ true → contains nat_cmp l.due x ≡ true;
}
