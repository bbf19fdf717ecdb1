use Rattle.std.proofs.Common.{◌≡◌, ◌+◌, ◌-◌, drop, length}
use Rattle.codeco_late_faults.specs.Order.{numbers, shares}
use Rattle.codeco_late_faults.proofs.doubles.shares.Given as goal

abbrev pub invariant-loop-place : goal.invariant-loop-place
invariant-loop-place l = shares (numbers (drop l.place l.feats)) (numbers (drop l.other l.taken)) ≡ shares (numbers l.feats) (numbers l.taken)

abbrev pub decreases-loop-place : goal.decreases-loop-place
decreases-loop-place l = (length l.feats - l.place) + (length l.taken - l.other)
