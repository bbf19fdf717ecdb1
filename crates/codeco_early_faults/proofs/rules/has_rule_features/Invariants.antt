use Rattle.std.proofs.Common.{◌≡◌, drop}
use Rattle.std.specs.List.{list_all, flat_map}
use Rattle.codeco_text.specs.Names.{is_among}
use Rattle.codeco_numbering.specs.Numbered.{category_features, element_categories}
use Rattle.codeco_early_faults.proofs.rules.has_rule_features.Given as goal

abbrev pub invariant-loop-element : goal.invariant-loop-element
invariant-loop-element l = list_all (is_among l.names)
    (flat_map (λ e. flat_map category_features (element_categories e)) (drop l.element-index l.element-items))
    ≡ list_all (is_among l.names) (flat_map (λ e. flat_map category_features (element_categories e)) l.element-items)
