use Rattle.std.proofs.Common.{List, map, refl}
use Rattle.codeco_terms.specs.declared.elements.Element.{Element}
use Rattle.codeco_text.specs.Notation.{body_lexemes, element_lexemes}
use Rattle.codeco_printer.specs.Unnumbered.{written_element}
use Rattle.codeco_printer.proofs.WriteLaws.{list_turn}
use Rattle.codeco_printer.proofs.printing.print_body.Goals as goal

pub loop-element-preserved : goal.loop-element-preserved
loop-element-preserved c =
    let g = c.args.grammar.now in
    let es = c.as_slice-element-items.result.now in
    list_turn (λ (xs : List Element). body_lexemes (map (written_element g) xs)) (λ e. element_lexemes (written_element g e)) (λ _ _. refl) c.args.out.now
    c.loop-element.out c.print_element.new.out (body_lexemes (map (written_element g) es)) es c.loop-element.element-index c.element-item.result
    c.loop-element-test.true c.element-item.is c.loop-element.invariant c.in_ok-print_element.ensures
