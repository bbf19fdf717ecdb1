use Rattle.std.proofs.Common.{◌∙◌, ap}
use Rattle.codeco_text.specs.Notation.{lexemes}
use Rattle.codeco_printer.specs.Unnumbered.{written_of}
use Rattle.codeco_printer.specs.Writing.{write}
use Rattle.codeco_printer.proofs.GrammarPrinted.{parts_written}
use Rattle.codeco_printer.proofs.printing.print_parts.Goals as goal

pub returns : goal.returns
returns c = parts_written c.args.grammar.now c.new-out.result c.print_declarations.new.out c.print_rules.new.out c.in_ok-print_declarations.ensures
    c.in_ok-print_rules.ensures ∙ ap (λ o. write o (lexemes (written_of c.args.grammar.now))) c.new-out.ensures
