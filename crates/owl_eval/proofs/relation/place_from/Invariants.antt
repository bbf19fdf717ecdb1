use Rattle.std.proofs.Common.{ℕ, ◌<◌, ◌≤◌, get_or}
use Rattle.owl_eval.proofs.relation.place_from.Given as goal

abbrev pub invariant-loop-place : goal.invariant-loop-place
invariant-loop-place l = record {
  from : l.start ≤ l.place;
  below : (k : ℕ) (d : ℕ × ℕ) → l.start ≤ k → k < l.place → (get_or l.pairs k d).1 < l.least;
}
