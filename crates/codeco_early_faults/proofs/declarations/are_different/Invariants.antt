use Rattle.std.proofs.Common.{◌≡◌, true, ◌++◌, drop}
use Rattle.codeco_checked.specs.Numbering.{differ}
use Rattle.codeco_early_faults.proofs.declarations.are_different.Given as goal

abbrev pub invariant-loop-name : goal.invariant-loop-name
invariant-loop-name l = record {
  different : differ l.before ≡ true;
  left : differ (l.before ++ drop l.name-index l.names) ≡ differ l.names;
}
