use Rattle.std.proofs.Common.{◌≡◌, drop, map}
use Rattle.codeco_text.specs.declared.written.WrittenItem.TheVariants as item
use Rattle.codeco_text.specs.Notation.{lexemes}
use Rattle.codeco_printer.specs.Unnumbered.{written_rule}
use Rattle.codeco_printer.specs.Writing.{write}
use Rattle.codeco_printer.proofs.printing.print_rules.Given as goal

abbrev pub invariant-loop-rule : goal.invariant-loop-rule
invariant-loop-rule l = write l.out (lexemes (map (λ r. item.Rule (written_rule l.grammar r)) (drop l.rule-index l.rule-items)))
    ≡ write l.initial.out (lexemes (map (λ r. item.Rule (written_rule l.grammar r)) l.rule-items))
