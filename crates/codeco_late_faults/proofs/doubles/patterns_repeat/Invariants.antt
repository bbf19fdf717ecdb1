use Rattle.std.proofs.Common.{◌≡◌, drop, map}
use Rattle.std.specs.List.{list_any}
use Rattle.codeco_checked.specs.Occurrences.{whole}
use Rattle.codeco_late_faults.specs.Order.{is_double_category}
use Rattle.codeco_late_faults.proofs.doubles.patterns_repeat.Given as goal

abbrev pub invariant-loop-pattern : goal.invariant-loop-pattern
invariant-loop-pattern l = list_any is_double_category (map whole (drop l.pattern-index l.patterns)) ≡ list_any is_double_category (map whole l.patterns)
