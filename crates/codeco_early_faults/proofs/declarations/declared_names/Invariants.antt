use Rattle.std.proofs.Common.{◌≡◌, drop}
use Rattle.codeco_numbering.specs.Numbered.{gathered}
use Rattle.codeco_early_faults.specs.Early.{declared_names}
use Rattle.codeco_early_faults.proofs.declarations.declared_names.Given as goal

abbrev pub invariant-loop-item : goal.invariant-loop-item
invariant-loop-item l = gathered l.names (declared_names (drop l.item-index l.item-items)) ≡ gathered l.initial.names (declared_names l.item-items)
