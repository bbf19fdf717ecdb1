use Rattle.std.proofs.Common.{◌≡◌, drop}
use Rattle.codeco_numbering.specs.Numbered.{gathered}
use Rattle.codeco_numbering.proofs.atoms.add_symbols.Given as goal

abbrev pub invariant-loop-symbol : goal.invariant-loop-symbol
invariant-loop-symbol l = gathered l.names (drop l.symbol-index l.symbol-items) ≡ gathered l.initial.names l.symbol-items
