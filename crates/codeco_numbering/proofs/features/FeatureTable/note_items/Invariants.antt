use Rattle.std.proofs.Common.{◌≡◌, drop}
use Rattle.std.specs.Prelude.{flat_map}
use Rattle.codeco_numbering.specs.Numbered.{with_undeclared, written_features, rules_of}
use Rattle.codeco_numbering.proofs.features.FeatureTable.note_items.Given as goal

abbrev pub invariant-loop-item : goal.invariant-loop-item
invariant-loop-item l = with_undeclared l.table (flat_map written_features (rules_of (drop l.item-index l.item-items)))
    ≡ with_undeclared l.initial.table (flat_map written_features (rules_of l.item-items))
