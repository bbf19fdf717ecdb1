use Rattle.std.proofs.Common.{◌≡◌, drop, None}
use Rattle.codeco_late_faults.specs.Order.{numbers}
use Rattle.codeco_late_faults.proofs.DoubleLemmas.{repeats_after}
use Rattle.codeco_late_faults.proofs.doubles.repeats_taken.Given as goal

abbrev pub invariant-loop-feature : goal.invariant-loop-feature
invariant-loop-feature l = repeats_after l.last (numbers (drop l.feature-index l.taken)) ≡ repeats_after None (numbers l.taken)
