use Rattle.std.proofs.Common.{List, refl}
use Rattle.std.specs.Prelude.{flat_map}
use Rattle.codeco_text.specs.declared.written.WrittenCategory.{WrittenCategory}
use Rattle.codeco_numbering.specs.Numbered.{gathered, category_names}
use Rattle.codeco_numbering.proofs.Gathers.{gather_turn}
use Rattle.codeco_numbering.proofs.variables.add_categories.Goals as goal

pub loop-category-preserved : goal.loop-category-preserved
loop-category-preserved c =
    let items = c.as_slice-category-items.result.now in
    gather_turn (λ (xs : List WrittenCategory). flat_map (category_names c.args.features.now) xs)
    (λ (x : WrittenCategory). category_names c.args.features.now x) (λ x xs. refl) c.loop-category.names c.add_category.new.names
    (gathered c.args.names.now ((λ (xs : List WrittenCategory). flat_map (category_names c.args.features.now) xs) items)) items
    c.loop-category.category-index c.category-item.result c.loop-category-test.true c.category-item.is c.loop-category.invariant
    c.in_ok-add_category.ensures
