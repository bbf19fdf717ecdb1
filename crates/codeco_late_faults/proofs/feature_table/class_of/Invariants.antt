use Rattle.std.proofs.Common.{◌≡◌, ◌+◌, drop}
use Rattle.codeco_late_faults.specs.Tables.{class_in}
use Rattle.codeco_late_faults.proofs.feature_table.class_of.Given as goal

abbrev pub invariant-loop-place : goal.invariant-loop-place
invariant-loop-place l = l.place + class_in (drop l.place l.features) l.declared ≡ class_in l.features l.declared
