use Rattle.std.proofs.Common.{◌≡◌, drop, map, List, ℕ}
use Rattle.std.specs.List.{list_any}
use Rattle.codeco_checked.specs.Numbering.{has}
use Rattle.codeco_late_faults.specs.Marks.{IsSetOf}
use Rattle.codeco_late_faults.proofs.references.takes_one.Given as goal

abbrev pub invariant-loop-variable : goal.invariant-loop-variable
invariant-loop-variable l = (xs : List ℕ) → IsSetOf 256 l.plain xs
    → list_any (has xs) (map (λ t. t.1) (drop l.variable-index l.taken)) ≡ list_any (has xs) (map (λ t. t.1) l.taken)
