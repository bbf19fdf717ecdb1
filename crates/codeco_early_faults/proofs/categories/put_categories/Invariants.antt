use Rattle.std.proofs.Common.{◌≡◌, drop}
use Rattle.std.specs.List.{flat_map}
use Rattle.codeco_early_faults.specs.Pairs.{gathered_pairs}
use Rattle.codeco_early_faults.specs.Early.{category_pairs}
use Rattle.codeco_early_faults.proofs.categories.put_categories.Given as goal

abbrev pub invariant-loop-category : goal.invariant-loop-category
invariant-loop-category l = gathered_pairs l.pairs (flat_map category_pairs (drop l.category-index l.category-items))
    ≡ gathered_pairs l.initial.pairs (flat_map category_pairs l.category-items)
