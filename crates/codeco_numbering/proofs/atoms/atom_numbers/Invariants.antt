use Rattle.std.proofs.Common.{◌≡◌, take, map}
use Rattle.codeco_numbering.specs.Numbered.{number_of}
use Rattle.codeco_numbering.proofs.atoms.atom_numbers.Given as goal

abbrev pub invariant-loop-symbol : goal.invariant-loop-symbol
invariant-loop-symbol l = l.numbers ≡ map (number_of l.atoms) (take l.symbol-index l.symbol-items)
