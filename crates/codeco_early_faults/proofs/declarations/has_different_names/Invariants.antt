use Rattle.std.proofs.Common.{◌≡◌, true, ◌++◌, drop}
use Rattle.codeco_checked.specs.Numbering.{differ}
use Rattle.codeco_early_faults.specs.Early.{declared_names}
use Rattle.codeco_early_faults.proofs.declarations.has_different_names.Given as goal

abbrev pub invariant-loop-item : goal.invariant-loop-item
invariant-loop-item l = record {
  different : differ l.before ≡ true;
  left : differ (l.before ++ declared_names (drop l.item-index l.item-items)) ≡ differ (declared_names l.item-items);
}
