use Rattle.std.proofs.Common.{[], ap, ◌∙◌, ◌++◌}
use Rattle.std.specs.List.{flat_map}
use Rattle.codeco_numbering.specs.Numbered.{gathered}
use Rattle.codeco_early_faults.specs.Early.{category_variables, element_variables}
use Rattle.codeco_early_faults.proofs.Gathering.{names_turn, names_end, names_rule}
use Rattle.codeco_early_faults.proofs.variables.variable_names.Goals as goal

pub loop-element-preserved : goal.loop-element-preserved
loop-element-preserved c =
    names_turn element_variables c.put_category.new.names c.loop-element.names c.put_element.new.names c.as_slice-element-items.result.now
    c.loop-element.element-index c.element-item.result c.loop-element-test.true c.element-item.is c.loop-element.invariant c.in_ok-put_element.ensures

pub returns : goal.returns
returns c =
    let body = c.as_slice-element-items.result.now in
    names_rule element_variables c.new-names.result c.put_category.new.names c.loop-element.names (category_variables c.args.rule.now.head) body
    c.in_ok-put_category.ensures
    (names_end element_variables c.put_category.new.names c.loop-element.names body c.loop-element.element-index c.loop-element-test.false
    c.loop-element.invariant)
    ∙ ap (λ ns. gathered ns (category_variables c.args.rule.now.head ++ flat_map element_variables body)) c.new-names.ensures
    ∙ ap (λ es. gathered [] (category_variables c.args.rule.now.head ++ flat_map element_variables es)) c.as_slice-element-items.ensures
