use Rattle.std.proofs.Common.{◌≡◌, drop}
use Rattle.std.specs.List.{flat_map}
use Rattle.codeco_numbering.specs.Numbered.{gathered, term_names}
use Rattle.codeco_early_faults.proofs.variables.put_category.Given as goal

abbrev pub invariant-loop-feat : goal.invariant-loop-feat
invariant-loop-feat l = gathered l.names (flat_map (λ f. term_names f.term) (drop l.feat-index l.feat-items))
    ≡ gathered l.initial.names (flat_map (λ f. term_names f.term) l.feat-items)
