use Rattle.std.proofs.Common.{map, ap, ◌∙◌}
use Rattle.codeco_text.specs.Notation.{body_lexemes}
use Rattle.codeco_printer.specs.Unnumbered.{written_element}
use Rattle.codeco_printer.specs.Writing.{write}
use Rattle.codeco_printer.proofs.WriteLaws.{write-rule}
use Rattle.codeco_text.specs.declared.symbols.Lexeme.TheVariants as lexeme
use Rattle.codeco_printer.proofs.printing.print_rule.Goals as goal

pub returns : goal.returns
returns c = write-rule c.args.grammar.now c.args.rule.now c.args.out.now c.print_label.new.out c.print_category.new.out _ (lexeme.Sign c.arrow.result)
    c.print_body.new.out c.in_ok-print_label.ensures c.in_ok-print_category.ensures c.arrow.ensures
    (c.in_ok-print_body.ensures ∙ ap (λ o. write o (body_lexemes (map (written_element c.args.grammar.now) c.args.rule.now.body))) c.in_ok-sign.ensures)
    c.in_ok-sign-2.ensures
