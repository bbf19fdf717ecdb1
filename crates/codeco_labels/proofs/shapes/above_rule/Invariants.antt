use Rattle.std.proofs.Common.{◌≡◌, ◌<◌, ◌≤◌, true, take}
use Rattle.std.specs.List.{list_all}
use Rattle.codeco_labels.specs.Shapes.{element_below}
use Rattle.codeco_labels.proofs.shapes.above_rule.Given as goal

abbrev pub invariant-loop-element : goal.invariant-loop-element
invariant-loop-element l = record {
  most : l.above ≤ 65536;
  least : l.least ≤ l.above;
  head : l.fn.rule.head.name < l.above;
  children : list_all (element_below l.above) (take l.element-index l.element-items) ≡ true;
}
