use Rattle.std.proofs.Common.{List, map, refl}
use Rattle.codeco_terms.specs.declared.rules.Rule.{Rule}
use Rattle.codeco_text.specs.declared.written.WrittenItem.TheVariants as item
use Rattle.codeco_text.specs.Notation.{lexemes, item_lexemes}
use Rattle.codeco_printer.specs.Unnumbered.{written_rule}
use Rattle.codeco_printer.proofs.WriteLaws.{list_turn}
use Rattle.codeco_printer.proofs.printing.print_rules.Goals as goal

pub loop-rule-preserved : goal.loop-rule-preserved
loop-rule-preserved c =
    let g = c.args.grammar.now in
    let rs = c.as_slice-rule-items.result.now in
    list_turn (λ (xs : List Rule). lexemes (map (λ r. item.Rule (written_rule g r)) xs)) (λ r. item_lexemes (item.Rule (written_rule g r))) (λ _ _. refl)
    c.args.out.now c.loop-rule.out c.print_rule.new.out (lexemes (map (λ r. item.Rule (written_rule g r)) rs)) rs c.loop-rule.rule-index c.rule-item.result
    c.loop-rule-test.true c.rule-item.is c.loop-rule.invariant c.in_ok-print_rule.ensures
