use Rattle.std.proofs.Common.{◌≡◌, not, drop}
use Rattle.std.specs.List.{list_any}
use Rattle.codeco_checked.specs.Numbering.{differ}
use Rattle.codeco_early_faults.specs.Early.{item_atoms}
use Rattle.codeco_early_faults.proofs.declarations.has_double_declaration.Given as goal

abbrev pub invariant-loop-item : goal.invariant-loop-item
invariant-loop-item l = list_any (λ i. not (differ (item_atoms i))) (drop l.item-index l.item-items) ≡ list_any (λ i. not (differ (item_atoms i))) l.item-items
