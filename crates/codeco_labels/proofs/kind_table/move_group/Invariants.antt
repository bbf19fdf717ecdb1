use Rattle.std.proofs.Common.{◌≡◌, ℕ, ◌<◌, ◌≤◌, length, get_or}
use Rattle.codeco_labels.specs.Tables.{moved}
use Rattle.codeco_labels.proofs.kind_table.move_group.Given as goal

abbrev pub invariant-loop-group : goal.invariant-loop-group
invariant-loop-group l = record {
  done : (k : ℕ) → k < l.group-index → get_or l.groups k 0 ≡ moved l.from l.to (get_or l.initial.groups k 0);
  left : (k : ℕ) → l.group-index ≤ k → get_or l.groups k 0 ≡ get_or l.initial.groups k 0;
}
