use Rattle.std.proofs.Common.{List, map}
use Rattle.std.proofs.lemmas.List.{map-append}
use Rattle.std.specs.Prelude.{flat_map}
use Rattle.codeco_text.specs.declared.written.WrittenElement.{WrittenElement}
use Rattle.codeco_numbering.specs.Numbered.{gathered, plain_categories}
use Rattle.codeco_numbering.proofs.Gathers.{gather_turn}
use Rattle.codeco_numbering.proofs.gathering.add_rule_names.Goals as goal

pub loop-element-preserved : goal.loop-element-preserved
loop-element-preserved c =
    let items = c.as_slice-element-items.result.now in
    gather_turn (λ (xs : List WrittenElement). map (λ d. d.name) (flat_map plain_categories xs))
    (λ (x : WrittenElement). map (λ d. d.name) (plain_categories x)) (λ x xs. map-append (λ d. d.name) (plain_categories x) (flat_map plain_categories xs))
    c.loop-element.names c.add_element_names.new.names
    (gathered c.add.new.self ((λ (xs : List WrittenElement). map (λ d. d.name) (flat_map plain_categories xs)) items)) items c.loop-element.element-index
    c.element-item.result c.loop-element-test.true c.element-item.is c.loop-element.invariant c.in_ok-add_element_names.ensures
