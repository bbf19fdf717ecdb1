use Rattle.std.proofs.Common.{◌≡◌, drop}
use Rattle.codeco_late_faults.specs.Tables.{has_wrong_atom}
use Rattle.codeco_late_faults.proofs.bad_rules.has_wrong_atom.Given as goal

abbrev pub invariant-loop-feature : goal.invariant-loop-feature
invariant-loop-feature l = has_wrong_atom l.table (drop l.feature-index l.feats) ≡ has_wrong_atom l.table l.feats
