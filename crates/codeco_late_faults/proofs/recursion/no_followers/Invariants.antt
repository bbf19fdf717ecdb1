use Rattle.std.proofs.Common.{◌≡◌, ℕ, [], length, get_or}
use Rattle.codeco_late_faults.proofs.recursion.no_followers.Given as goal

abbrev pub invariant-loop : goal.invariant-loop
invariant-loop l = record {
  room : length l.table.items ≡ l.counter;
  none : (name : ℕ) → get_or l.table.items name [] ≡ [];
}
