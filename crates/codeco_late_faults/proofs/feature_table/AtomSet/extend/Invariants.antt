use Rattle.std.proofs.Common.{◌≡◌, drop}
use Rattle.codeco_late_faults.specs.Marks.{marked}
use Rattle.codeco_late_faults.proofs.feature_table.AtomSet.extend.Given as goal

abbrev pub invariant-loop-atom : goal.invariant-loop-atom
invariant-loop-atom l = marked l.self (drop l.atom-index l.atoms) ≡ marked l.initial.self l.atoms
