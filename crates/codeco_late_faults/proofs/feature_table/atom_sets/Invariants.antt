use Rattle.std.proofs.Common.{◌≡◌, take, map, replicate, false}
use Rattle.codeco_checked.specs.Numbering.{declared_atoms}
use Rattle.codeco_late_faults.specs.Marks.{marked}
use Rattle.codeco_late_faults.proofs.feature_table.atom_sets.Given as goal

abbrev pub invariant-loop-feature : goal.invariant-loop-feature
invariant-loop-feature l = l.sets.items ≡ map (λ x. marked (replicate l.room false) (declared_atoms x.declared)) (take l.feature-index l.features)
