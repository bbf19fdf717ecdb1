use Rattle.std.proofs.Common.{◌≡◌, ◌≤◌}
use Rattle.owl_words.specs.Attempts.{longest}
use Rattle.owl_words.proofs.attempts.longest.Given as goal

-- no longer front fits
abbrev pub invariant-loop-count : goal.invariant-loop-count
invariant-loop-count l = record {
  within : l.count ≤ l.most;
  left_decides : longest l.kind l.base l.ending l.most ≡ longest l.kind l.base l.ending l.count;
}

abbrev pub decreases-loop-count : goal.decreases-loop-count
decreases-loop-count l = l.count
