use Rattle.std.proofs.Common.{◌≡◌, List, [], drop, ap, sym, ◌∙◌, refl, arith}
use Rattle.std.proofs.lemmas.List.{drop_all}
use Rattle.std.specs.Prelude.{flat_map}
use Rattle.codeco_text.specs.declared.written.WrittenElement.{WrittenElement}
use Rattle.codeco_numbering.specs.Numbered.{gathered, category_names, element_names}
use Rattle.codeco_numbering.proofs.Gathers.{gathered_append}
use Rattle.codeco_numbering.proofs.Gathers.{gather_turn}
use Rattle.codeco_numbering.proofs.variables.variable_names.Goals as goal

pub loop-element-preserved : goal.loop-element-preserved
loop-element-preserved c =
    let items = c.as_slice-element-items.result.now in
    gather_turn (λ (xs : List WrittenElement). flat_map (element_names c.args.features.now) xs) (λ (x : WrittenElement). element_names c.args.features.now x)
    (λ x xs. refl) c.loop-element.names c.add_element.new.names
    (gathered c.add_category.new.names ((λ (xs : List WrittenElement). flat_map (element_names c.args.features.now) xs) items)) items
    c.loop-element.element-index c.element-item.result c.loop-element-test.true c.element-item.is c.loop-element.invariant c.in_ok-add_element.ensures

pub returns : goal.returns
returns c =
    let t = c.args.features.now in
    let rule = c.args.rule.now in
    let items = c.as_slice-element-items.result.now in
    let none : drop c.loop-element.element-index items ≡ [] = drop_all c.loop-element.element-index items (omega arith) in
    let done : c.loop-element.names ≡ gathered c.add_category.new.names (flat_map (element_names t) items) =
    ap (λ (xs : List WrittenElement). gathered c.loop-element.names (flat_map (element_names t) xs)) (sym none) ∙ c.loop-element.invariant in
    done
    ∙ ap (λ (xs : List WrittenElement). gathered c.add_category.new.names (flat_map (element_names t) xs)) c.as_slice-element-items.ensures
    ∙ ap (λ names. gathered names (flat_map (element_names t) rule.body))
    (c.in_ok-add_category.ensures ∙ ap (λ names. gathered names (category_names t rule.head)) c.new-names.ensures)
    ∙ sym (gathered_append [] (category_names t rule.head) (flat_map (element_names t) rule.body))
