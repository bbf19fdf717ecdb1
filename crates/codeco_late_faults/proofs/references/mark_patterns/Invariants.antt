use Rattle.std.proofs.Common.{◌≡◌, drop}
use Rattle.std.specs.List.{flat_map}
use Rattle.codeco_checked.specs.Occurrences.{category_variables}
use Rattle.codeco_late_faults.specs.Marks.{marked}
use Rattle.codeco_late_faults.proofs.references.mark_patterns.Given as goal

abbrev pub invariant-loop-pattern : goal.invariant-loop-pattern
invariant-loop-pattern l =
    marked l.plain (flat_map (λ p. category_variables p.cat) (drop l.pattern-index l.patterns))
    ≡ marked l.initial.plain (flat_map (λ p. category_variables p.cat) l.patterns)
