use Rattle.std.proofs.Common.{List}
use Rattle.std.specs.Prelude.{flat_map}
use Rattle.std.proofs.lemmas.List.Concat.{flat_map-append}
use Rattle.codeco_text.specs.declared.written.WrittenItem.{WrittenItem}
use Rattle.codeco_numbering.specs.Numbered.{with_undeclared, written_features, item_rules, rules_of}
use Rattle.codeco_numbering.proofs.Declaring.{noted_append}
use Rattle.codeco_numbering.proofs.Gathers.{fold_turn}
use Rattle.codeco_numbering.proofs.features.FeatureTable.note_items.Goals as goal

pub loop-item-preserved : goal.loop-item-preserved
loop-item-preserved c =
    let items = c.as_slice-item-items.result.now in
    fold_turn with_undeclared noted_append (λ (xs : List WrittenItem). flat_map written_features (rules_of xs))
    (λ (x : WrittenItem). flat_map written_features (item_rules x)) (λ x xs. flat_map-append written_features (item_rules x) (rules_of xs))
    c.loop-item.table c.in_ok-table.table (with_undeclared c.args.self ((λ (xs : List WrittenItem). flat_map written_features (rules_of xs)) items)) items
    c.loop-item.item-index c.item-item.result c.loop-item-test.true c.item-item.is c.loop-item.invariant c.in_ok-table.ensures
