use Rattle.std.proofs.Common.{◌≡◌, take, ◌++◌}
use Rattle.std.specs.List.{flat_map}
use Rattle.chart_table.specs.Choices.{element_terms}
use Rattle.chart_table.proofs.choices.push_body.Given as goal

abbrev pub invariant-loop-element : goal.invariant-loop-element
invariant-loop-element l = l.out ≡ l.fn.out ++ flat_map element_terms (take l.element-index l.body)
