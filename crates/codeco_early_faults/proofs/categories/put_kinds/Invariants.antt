use Rattle.std.proofs.Common.{◌≡◌, drop}
use Rattle.std.specs.List.{flat_map}
use Rattle.codeco_early_faults.specs.Pairs.{gathered_pairs}
use Rattle.codeco_early_faults.specs.Early.{kind_pairs}
use Rattle.codeco_early_faults.proofs.categories.put_kinds.Given as goal

abbrev pub invariant-loop-element : goal.invariant-loop-element
invariant-loop-element l = gathered_pairs l.pairs (flat_map kind_pairs (drop l.element-index l.body))
    ≡ gathered_pairs l.initial.pairs (flat_map kind_pairs l.body)
