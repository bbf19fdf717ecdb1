use Rattle.std.proofs.Common.{◌≡◌, take, map}
use Rattle.codeco_late_faults.specs.Tables.{class_in}
use Rattle.codeco_late_faults.proofs.feature_table.classes_of.Given as goal

abbrev pub invariant-loop-place : goal.invariant-loop-place
invariant-loop-place l = l.classes.items ≡ map (λ x. class_in l.features x.declared) (take l.place l.features)
