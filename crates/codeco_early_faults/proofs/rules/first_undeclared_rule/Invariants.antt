use Rattle.std.proofs.Common.{◌≡◌, ◌+◌, ◌≤◌, drop, length}
use Rattle.codeco_numbering.specs.Numbered.{rules_of}
use Rattle.codeco_early_faults.specs.Early.{declared_names}
use Rattle.codeco_early_faults.proofs.Places.{first_rule, undeclared_at}
use Rattle.codeco_early_faults.proofs.rules.first_undeclared_rule.Given as goal

abbrev pub invariant-loop-item : goal.invariant-loop-item
invariant-loop-item l = record {
  few : l.number + length (rules_of (drop l.item-index l.item-items)) ≤ 500;
  left : first_rule (undeclared_at (declared_names l.item-items)) l.number (rules_of (drop l.item-index l.item-items))
      ≡ first_rule (undeclared_at (declared_names l.item-items)) 0 (rules_of l.item-items);
}
