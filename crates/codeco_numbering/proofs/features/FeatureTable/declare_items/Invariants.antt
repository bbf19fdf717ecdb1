use Rattle.std.proofs.Common.{◌≡◌, drop}
use Rattle.codeco_numbering.specs.Numbered.{with_items}
use Rattle.codeco_numbering.proofs.features.FeatureTable.declare_items.Given as goal

abbrev pub invariant-loop-item : goal.invariant-loop-item
invariant-loop-item l = with_items l.table (drop l.item-index l.item-items) ≡ with_items l.initial.table l.item-items
