use Rattle.std.proofs.Common.{◌≡◌, ◌≤◌, true, take}
use Rattle.std.specs.List.{list_all}
use Rattle.codeco_labels.specs.Shapes.{names_below}
use Rattle.codeco_labels.proofs.shapes.above_rules.Given as goal

abbrev pub invariant-loop-rule : goal.invariant-loop-rule
invariant-loop-rule l = record {
  most : l.above ≤ 65536;
  least : 6 ≤ l.above;
  below : list_all (names_below l.above) (take l.rule-index l.rules) ≡ true;
}
