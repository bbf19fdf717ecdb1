use Rattle.std.proofs.Common.{◌≡◌, drop, map}
use Rattle.codeco_text.specs.Notation.{body_lexemes}
use Rattle.codeco_printer.specs.Unnumbered.{written_element}
use Rattle.codeco_printer.specs.Writing.{write}
use Rattle.codeco_printer.proofs.printing.print_body.Given as goal

abbrev pub invariant-loop-element : goal.invariant-loop-element
invariant-loop-element l = write l.out (body_lexemes (map (written_element l.grammar) (drop l.element-index l.element-items)))
    ≡ write l.initial.out (body_lexemes (map (written_element l.grammar) l.element-items))
