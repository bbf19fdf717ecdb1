use Rattle.std.proofs.Common.{map, refl, ap, ◌∙◌}
use Rattle.codeco_text.specs.declared.symbols.Lexeme.TheVariants as lexeme
use Rattle.codeco_terms.specs.declared.categories.Pattern.{Pattern}
use Rattle.std.proofs.Common.{List, ◌∷◌}
use Rattle.codeco_text.specs.Notation.{signed, named}
use Rattle.codeco_printer.specs.Unnumbered.{written_pattern}
use Rattle.codeco_printer.specs.Writing.{write}
use Rattle.codeco_printer.proofs.WriteLaws.{list_turn}
use Rattle.codeco_printer.proofs.printing.print_patterns.Goals as goal

pub loop-pattern-preserved : goal.loop-pattern-preserved
loop-pattern-preserved c =
    let g = c.args.grammar.now in
    let s = c.args.sign in
    let ps = c.as_slice-pattern-items.result.now in
    list_turn (λ (xs : List Pattern). signed s (map (written_pattern g) xs)) (λ p. lexeme.Sign s ∷ named (written_pattern g p)) (λ _ _. refl) c.args.out.now
    c.loop-pattern.out c.print_pattern.new.out (signed s (map (written_pattern g) ps)) ps c.loop-pattern.pattern-index c.pattern-item.result
    c.loop-pattern-test.true c.pattern-item.is c.loop-pattern.invariant
    (c.in_ok-print_pattern.ensures ∙ ap (λ o. write o (named (written_pattern g c.pattern-item.result))) c.in_ok-sign.ensures)
