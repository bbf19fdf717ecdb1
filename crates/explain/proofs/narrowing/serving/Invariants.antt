use Rattle.std.proofs.Common.{◌≤◌, length}
use Rattle.explain.specs.Answers.{claims_in}
use Rattle.explain.specs.Narrow.{AreBetween}
use Rattle.explain.proofs.narrowing.serving.Given as goal

abbrev pub invariant-loop-place : goal.invariant-loop-place
invariant-loop-place l = record {
  above : l.from ≤ l.place;
  within : l.place ≤ length l.inquiry.parts.now;
  between : AreBetween l.place (length (claims_in l.inquiry.parts.now)) l.chosen;
}

abbrev pub decreases-loop-place : goal.decreases-loop-place
decreases-loop-place l = l.place
