use Rattle.std.proofs.Common.{◌≡◌, drop}
use Rattle.std.specs.List.{flat_map}
use Rattle.codeco_numbering.specs.Numbered.{gathered}
use Rattle.codeco_early_faults.specs.Early.{category_variables}
use Rattle.codeco_early_faults.proofs.variables.put_categories.Given as goal

abbrev pub invariant-loop-category : goal.invariant-loop-category
invariant-loop-category l = gathered l.names (flat_map category_variables (drop l.category-index l.category-items))
    ≡ gathered l.initial.names (flat_map category_variables l.category-items)
