use Rattle.std.proofs.Common.{◌≡◌, drop}
use Rattle.std.specs.Prelude.{flat_map}
use Rattle.codeco_text.specs.Notation.{lexemes}
use Rattle.codeco_printer.specs.Unnumbered.{written_feature}
use Rattle.codeco_printer.specs.Writing.{write}
use Rattle.codeco_printer.proofs.printing.print_declarations.Given as goal

abbrev pub invariant-loop-feature : goal.invariant-loop-feature
invariant-loop-feature l = write l.out (lexemes (flat_map (written_feature l.grammar) (drop l.feature-index l.feature-items)))
    ≡ write l.initial.out (lexemes (flat_map (written_feature l.grammar) l.feature-items))
