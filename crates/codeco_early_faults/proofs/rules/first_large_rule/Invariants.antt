use Rattle.std.proofs.Common.{◌≡◌, ◌≤◌, drop}
use Rattle.codeco_numbering.specs.Numbered.{rules_of}
use Rattle.codeco_early_faults.proofs.Places.{first_rule, large_at}
use Rattle.codeco_early_faults.proofs.rules.first_large_rule.Given as goal

abbrev pub invariant-loop-item : goal.invariant-loop-item
invariant-loop-item l = record {
  few : l.number ≤ 500;
  left : first_rule large_at l.number (rules_of (drop l.item-index l.item-items)) ≡ first_rule large_at 0 (rules_of l.item-items);
}
