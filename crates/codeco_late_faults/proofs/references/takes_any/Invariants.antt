use Rattle.std.proofs.Common.{◌≡◌, drop, List, ℕ}
use Rattle.std.specs.List.{flat_map, list_any}
use Rattle.codeco_checked.specs.Numbering.{has}
use Rattle.codeco_checked.specs.Faults.{taken_variables}
use Rattle.codeco_late_faults.specs.Marks.{IsSetOf}
use Rattle.codeco_late_faults.proofs.references.takes_any.Given as goal

abbrev pub invariant-loop-pattern : goal.invariant-loop-pattern
invariant-loop-pattern l = (xs : List ℕ) → IsSetOf 256 l.plain xs
    → list_any (has xs) (flat_map taken_variables (drop l.pattern-index l.patterns)) ≡ list_any (has xs) (flat_map taken_variables l.patterns)
