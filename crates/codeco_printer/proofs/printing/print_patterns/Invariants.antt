use Rattle.std.proofs.Common.{◌≡◌, drop, map}
use Rattle.codeco_text.specs.Notation.{signed}
use Rattle.codeco_printer.specs.Unnumbered.{written_pattern}
use Rattle.codeco_printer.specs.Writing.{write}
use Rattle.codeco_printer.proofs.printing.print_patterns.Given as goal

abbrev pub invariant-loop-pattern : goal.invariant-loop-pattern
invariant-loop-pattern l =
    write l.out (signed l.sign (map (written_pattern l.grammar) (drop l.pattern-index l.pattern-items)))
    ≡ write l.initial.out (signed l.sign (map (written_pattern l.grammar) l.pattern-items))
