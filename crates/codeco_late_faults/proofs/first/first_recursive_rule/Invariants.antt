use Rattle.codeco_late_faults.specs.Steps.{Reaches, leads}
use Rattle.codeco_late_faults.proofs.PlaceLemmas.{NotBefore}
use Rattle.codeco_late_faults.proofs.first.first_recursive_rule.Given as goal

abbrev pub invariant-loop-place : goal.invariant-loop-place
invariant-loop-place l = NotBefore (λ r. Reaches (leads l.table) r.head.name r.head.name) l.rules l.place
