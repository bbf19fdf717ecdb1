use Rattle.std.proofs.Common.{List, refl}
use Rattle.std.specs.Prelude.{flat_map}
use Rattle.codeco_text.specs.declared.written.WrittenCategory.{WrittenCategory}
use Rattle.codeco_numbering.specs.Numbered.{with_undeclared, category_features}
use Rattle.codeco_numbering.proofs.Declaring.{noted_append}
use Rattle.codeco_numbering.proofs.Gathers.{fold_turn}
use Rattle.codeco_numbering.proofs.features.FeatureTable.note_categories.Goals as goal

pub loop-category-preserved : goal.loop-category-preserved
loop-category-preserved c =
    let items = c.as_slice-category-items.result.now in
    fold_turn with_undeclared noted_append (λ (xs : List WrittenCategory). flat_map category_features xs) (λ (x : WrittenCategory). category_features x)
    (λ x xs. refl) c.loop-category.table c.in_ok-table.table
    (with_undeclared c.args.self ((λ (xs : List WrittenCategory). flat_map category_features xs) items)) items c.loop-category.category-index
    c.category-item.result c.loop-category-test.true c.category-item.is c.loop-category.invariant c.in_ok-table.ensures
