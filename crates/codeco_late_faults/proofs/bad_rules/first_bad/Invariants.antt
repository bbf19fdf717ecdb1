use Rattle.std.specs.Prelude.{IsTrue}
use Rattle.codeco_checked.specs.Faults.{is_bad_rule}
use Rattle.codeco_late_faults.proofs.PlaceLemmas.{NotBefore}
use Rattle.codeco_late_faults.proofs.bad_rules.first_bad.Given as goal

abbrev pub invariant-loop-place : goal.invariant-loop-place
invariant-loop-place l = NotBefore (λ r. IsTrue (is_bad_rule l.table r)) l.rules l.place
