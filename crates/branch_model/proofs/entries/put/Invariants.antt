use Rattle.std.proofs.Common.{◌-◌, ◌≤◌, length}
use Rattle.branch_model.proofs.Putting.{AreBefore}
use Rattle.branch_model.proofs.entries.put.Given as goal

abbrev pub invariant-loop-place : goal.invariant-loop-place
invariant-loop-place g l = record {
  within : l.place ≤ length l.entries.items;
  before : AreBefore l.word l.entries.items l.place;
}

abbrev pub decreases-loop-place : goal.decreases-loop-place
decreases-loop-place g l = length l.entries.items - l.place
