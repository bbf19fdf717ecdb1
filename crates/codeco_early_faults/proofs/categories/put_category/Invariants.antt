use Rattle.std.proofs.Common.{◌≡◌, drop, map}
use Rattle.codeco_early_faults.specs.Pairs.{gathered_pairs}
use Rattle.codeco_early_faults.proofs.categories.put_category.Given as goal

abbrev pub invariant-loop-feat : goal.invariant-loop-feat
invariant-loop-feat l = gathered_pairs l.pairs (map (λ f. (l.name, f.name)) (drop l.feat-index l.feat-items))
    ≡ gathered_pairs l.initial.pairs (map (λ f. (l.name, f.name)) l.feat-items)
