use Rattle.std.proofs.Common.{◌≡◌, length}
use Rattle.codeco_late_faults.specs.Tables.{has_mixed_variable}
use Rattle.codeco_late_faults.proofs.MixedLemmas.{LeftDecides}
use Rattle.codeco_late_faults.proofs.bad_rules.has_mixed_variable.Given as goal

abbrev pub invariant-loop-feature : goal.invariant-loop-feature
invariant-loop-feature l = record {
  left : LeftDecides l.table l.feats l.feature-index l.classes (has_mixed_variable l.table l.feats);
  room : length l.classes ≡ 256;
}
