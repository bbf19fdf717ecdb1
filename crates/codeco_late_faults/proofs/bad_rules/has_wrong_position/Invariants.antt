use Rattle.std.proofs.Common.{◌≡◌, drop}
use Rattle.std.specs.List.{list_any, flat_map}
use Rattle.codeco_checked.specs.Occurrences.{positions}
use Rattle.codeco_late_faults.specs.Tables.{is_misplaced}
use Rattle.codeco_late_faults.proofs.bad_rules.has_wrong_position.Given as goal

abbrev pub invariant-loop-element : goal.invariant-loop-element
invariant-loop-element l = list_any (is_misplaced l.table l.feats) (flat_map positions (drop l.element-index l.body))
    ≡ list_any (is_misplaced l.table l.feats) (flat_map positions l.body)
