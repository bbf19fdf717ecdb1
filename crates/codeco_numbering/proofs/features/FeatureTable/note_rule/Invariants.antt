use Rattle.std.proofs.Common.{◌≡◌, drop}
use Rattle.std.specs.Prelude.{flat_map}
use Rattle.codeco_numbering.specs.Numbered.{with_undeclared, category_features, element_categories}
use Rattle.codeco_numbering.proofs.features.FeatureTable.note_rule.Given as goal

abbrev pub invariant-loop-element : goal.invariant-loop-element
invariant-loop-element l = with_undeclared l.table (flat_map category_features (flat_map element_categories (drop l.element-index l.element-items)))
    ≡ with_undeclared l.initial.table (flat_map category_features (flat_map element_categories l.element-items))
