use Rattle.std.proofs.Common.{false, true, ap, sym, ◌∙◌, ◌++◌}
use Rattle.std.specs.List.{flat_map, list_all}
use Rattle.codeco_text.specs.Names.{is_among}
use Rattle.codeco_numbering.specs.Numbered.{category_features, element_categories}
use Rattle.codeco_early_faults.proofs.Gathering.{all_rule, all_turn_fails, all_turn_ends}
use Rattle.codeco_early_faults.proofs.rules.has_rule_features.Goals as goal

pub returns-then-not-has_element_features : goal.returns-then-not-has_element_features
returns-then-not-has_element_features c =
    let p = is_among c.args.names.now in
    let body = c.as_slice-element-items.result.now in
    all_rule p category_features element_categories (category_features c.args.rule.now.head) body false
    (sym c.has_features.ensures ∙ c.if-not-has_features.false)
    (all_turn_fails p (λ e. flat_map category_features (element_categories e)) body c.loop-element.element-index c.element-item.result c.loop-element-test.true
    c.element-item.is c.loop-element.invariant (sym c.has_element_features.ensures ∙ c.if-not-has_element_features.true))
    ∙ ap (λ es. list_all p (category_features c.args.rule.now.head ++ flat_map category_features (flat_map element_categories es)))
    c.as_slice-element-items.ensures

pub returns : goal.returns
returns c =
    let p = is_among c.args.names.now in
    let body = c.as_slice-element-items.result.now in
    all_rule p category_features element_categories (category_features c.args.rule.now.head) body true
    (sym c.has_features.ensures ∙ c.if-not-has_features.false)
    (all_turn_ends p (λ e. flat_map category_features (element_categories e)) body c.loop-element.element-index c.loop-element-test.false
    c.loop-element.invariant)
    ∙ ap (λ es. list_all p (category_features c.args.rule.now.head ++ flat_map category_features (flat_map element_categories es)))
    c.as_slice-element-items.ensures
