use Rattle.std.proofs.Common.{◌≡◌, drop}
use Rattle.codeco_numbering.specs.Numbered.{gathered}
use Rattle.codeco_early_faults.specs.Early.{declared_atoms}
use Rattle.codeco_early_faults.proofs.declarations.declared_atoms.Given as goal

abbrev pub invariant-loop-item : goal.invariant-loop-item
invariant-loop-item l = gathered l.atoms (declared_atoms (drop l.item-index l.item-items)) ≡ gathered l.initial.atoms (declared_atoms l.item-items)
