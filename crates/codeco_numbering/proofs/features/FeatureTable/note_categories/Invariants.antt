use Rattle.std.proofs.Common.{◌≡◌, drop}
use Rattle.std.specs.Prelude.{flat_map}
use Rattle.codeco_numbering.specs.Numbered.{with_undeclared, category_features}
use Rattle.codeco_numbering.proofs.features.FeatureTable.note_categories.Given as goal

abbrev pub invariant-loop-category : goal.invariant-loop-category
invariant-loop-category l = with_undeclared l.table (flat_map category_features (drop l.category-index l.category-items))
    ≡ with_undeclared l.initial.table (flat_map category_features l.category-items)
