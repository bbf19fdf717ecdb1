use Rattle.std.proofs.Common.{◌≡◌, List, [], drop, ap, sym, ◌∙◌, arith}
use Rattle.std.proofs.lemmas.List.{drop_all}
use Rattle.std.specs.Prelude.{flat_map}
use Rattle.std.proofs.lemmas.List.Concat.{flat_map-append}
use Rattle.codeco_text.specs.declared.written.WrittenElement.{WrittenElement}
use Rattle.codeco_numbering.specs.Numbered.{with_undeclared, category_features, element_categories}
use Rattle.codeco_numbering.proofs.Declaring.{noted_append}
use Rattle.codeco_numbering.proofs.Gathers.{fold_turn}
use Rattle.codeco_numbering.proofs.features.FeatureTable.note_rule.Goals as goal

pub loop-element-preserved : goal.loop-element-preserved
loop-element-preserved c =
    let items = c.as_slice-element-items.result.now in
    fold_turn with_undeclared noted_append (λ (xs : List WrittenElement). flat_map category_features (flat_map element_categories xs))
    (λ (x : WrittenElement). flat_map category_features (element_categories x))
    (λ x xs. flat_map-append category_features (element_categories x) (flat_map element_categories xs)) c.loop-element.table c.in_ok-table-2.table
    (with_undeclared c.in_ok-table.table ((λ (xs : List WrittenElement). flat_map category_features (flat_map element_categories xs)) items)) items
    c.loop-element.element-index c.element-item.result c.loop-element-test.true c.element-item.is c.loop-element.invariant c.in_ok-table-2.ensures

pub returns : goal.returns
returns c =
    let rule = c.args.rule.now in
    let items = c.as_slice-element-items.result.now in
    let none : drop c.loop-element.element-index items ≡ [] = drop_all c.loop-element.element-index items (omega arith) in
    ap (λ (xs : List WrittenElement). with_undeclared c.loop-element.table (flat_map category_features (flat_map element_categories xs))) (sym none)
    ∙ c.loop-element.invariant
    ∙ ap (λ (xs : List WrittenElement). with_undeclared c.in_ok-table.table (flat_map category_features (flat_map element_categories xs)))
    c.as_slice-element-items.ensures
    ∙ ap (λ made. with_undeclared made (flat_map category_features (flat_map element_categories rule.body))) c.in_ok-table.ensures
    ∙ sym (noted_append c.args.self (category_features rule.head) (flat_map category_features (flat_map element_categories rule.body)))
