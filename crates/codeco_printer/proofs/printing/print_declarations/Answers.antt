use Rattle.std.proofs.Common.{List}
use Rattle.std.specs.Prelude.{flat_map}
use Rattle.std.proofs.lemmas.List.Concat.{flat_map-append}
use Rattle.codeco_terms.specs.declared.declarations.Feature.{Feature}
use Rattle.codeco_text.specs.Notation.{lexemes, item_lexemes}
use Rattle.codeco_printer.specs.Unnumbered.{written_feature}
use Rattle.codeco_printer.proofs.WriteLaws.{list_turn}
use Rattle.codeco_printer.proofs.printing.print_declarations.Goals as goal

pub loop-feature-preserved : goal.loop-feature-preserved
loop-feature-preserved c =
    let g = c.args.grammar.now in
    let fs = c.as_slice-feature-items.result.now in
    list_turn (λ (xs : List Feature). lexemes (flat_map (written_feature g) xs)) (λ f. lexemes (written_feature g f))
    (λ x xs. flat_map-append item_lexemes (written_feature g x) (flat_map (written_feature g) xs)) c.args.out.now c.loop-feature.out
    c.print_declaration.new.out (lexemes (flat_map (written_feature g) fs)) fs c.loop-feature.feature-index c.feature-item.result c.loop-feature-test.true
    c.feature-item.is c.loop-feature.invariant c.in_ok-print_declaration.ensures
