use Rattle.std.proofs.Common.{take}
use Rattle.derivations.specs.Listed.{listed, LeastOf}
use Rattle.derivations.proofs.least.least_of.Given as goal

abbrev pub invariant-loop-outcome : goal.invariant-loop-outcome
invariant-loop-outcome l = LeastOf l.setting (listed (take l.outcome-index l.outcomes)) l.least
