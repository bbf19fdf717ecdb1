use Rattle.std.proofs.Common.{List}
use Rattle.std.specs.Prelude.{flat_map}
use Rattle.std.proofs.lemmas.List.Concat.{flat_map-append}
use Rattle.codeco_text.specs.declared.written.WrittenItem.{WrittenItem}
use Rattle.codeco_numbering.specs.Numbered.{gathered, rule_names, item_rules, rules_of}
use Rattle.codeco_numbering.proofs.Gathers.{gather_turn}
use Rattle.codeco_numbering.proofs.gathering.categories_of.Goals as goal

pub loop-item-preserved : goal.loop-item-preserved
loop-item-preserved c =
    let items = c.as_slice-item-items.result.now in
    gather_turn (λ (xs : List WrittenItem). flat_map rule_names (rules_of xs)) (λ (x : WrittenItem). flat_map rule_names (item_rules x))
    (λ x xs. flat_map-append rule_names (item_rules x) (rules_of xs)) c.loop-item.names c.add_item_names.new.names
    (gathered c.add.new.self ((λ (xs : List WrittenItem). flat_map rule_names (rules_of xs)) items)) items c.loop-item.item-index c.item-item.result
    c.loop-item-test.true c.item-item.is c.loop-item.invariant c.in_ok-add_item_names.ensures
