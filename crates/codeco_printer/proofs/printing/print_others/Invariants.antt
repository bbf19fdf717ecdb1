use Rattle.std.proofs.Common.{◌≡◌, drop}
use Rattle.codeco_printer.specs.Writing.{write, other_atoms}
use Rattle.codeco_printer.proofs.printing.print_others.Given as goal

abbrev pub invariant-loop-atom : goal.invariant-loop-atom
invariant-loop-atom l = write l.out (other_atoms l.grammar (drop l.atom-index l.atoms)) ≡ write l.initial.out (other_atoms l.grammar l.atoms)
