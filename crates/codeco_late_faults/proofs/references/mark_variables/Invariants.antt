use Rattle.std.proofs.Common.{◌≡◌, drop}
use Rattle.std.specs.List.{flat_map}
use Rattle.codeco_checked.specs.Occurrences.{term_variables}
use Rattle.codeco_late_faults.specs.Marks.{marked}
use Rattle.codeco_late_faults.proofs.references.mark_variables.Given as goal

abbrev pub invariant-loop-term : goal.invariant-loop-term
invariant-loop-term l = marked l.plain (flat_map (λ f. term_variables f.1) (drop l.term-index l.feats))
    ≡ marked l.initial.plain (flat_map (λ f. term_variables f.1) l.feats)
