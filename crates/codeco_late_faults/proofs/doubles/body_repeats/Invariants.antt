use Rattle.std.proofs.Common.{◌≡◌, drop}
use Rattle.std.specs.List.{list_any, flat_map}
use Rattle.codeco_checked.specs.Occurrences.{mentions}
use Rattle.codeco_late_faults.specs.Order.{is_double_category}
use Rattle.codeco_late_faults.proofs.doubles.body_repeats.Given as goal

abbrev pub invariant-loop-element : goal.invariant-loop-element
invariant-loop-element l = list_any is_double_category (flat_map mentions (drop l.element-index l.body))
    ≡ list_any is_double_category (flat_map mentions l.body)
