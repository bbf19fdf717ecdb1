use Rattle.std.proofs.Common.{◌≡◌, drop}
use Rattle.std.specs.List.{list_all, flat_map}
use Rattle.codeco_text.specs.Names.{is_among}
use Rattle.codeco_numbering.specs.Numbered.{category_features}
use Rattle.codeco_early_faults.proofs.rules.have_features.Given as goal

abbrev pub invariant-loop-category : goal.invariant-loop-category
invariant-loop-category l = list_all (is_among l.names) (flat_map category_features (drop l.category-index l.category-items))
    ≡ list_all (is_among l.names) (flat_map category_features l.category-items)
