use Rattle.std.proofs.Common.{◌≡◌, drop}
use Rattle.codeco_late_faults.specs.Tables.{is_misplaced}
use Rattle.codeco_late_faults.proofs.bad_rules.is_misplaced.Given as goal

abbrev pub invariant-loop-feature : goal.invariant-loop-feature
invariant-loop-feature l = is_misplaced l.table (drop l.feature-index l.feats) l.variable ≡ is_misplaced l.table l.feats l.variable
