use Rattle.std.proofs.Common.{◌≡◌, drop}
use Rattle.std.specs.List.{flat_map}
use Rattle.codeco_early_faults.specs.Pairs.{gathered_pairs}
use Rattle.codeco_early_faults.specs.Early.{plain_pairs}
use Rattle.codeco_early_faults.proofs.categories.put_rule.Given as goal

abbrev pub invariant-loop-element : goal.invariant-loop-element
invariant-loop-element l = gathered_pairs l.pairs (flat_map plain_pairs (drop l.element-index l.element-items))
    ≡ gathered_pairs l.initial.pairs (flat_map plain_pairs l.element-items)
