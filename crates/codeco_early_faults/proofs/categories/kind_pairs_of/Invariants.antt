use Rattle.std.proofs.Common.{◌≡◌, drop}
use Rattle.std.specs.List.{flat_map}
use Rattle.codeco_numbering.specs.Numbered.{item_rules}
use Rattle.codeco_early_faults.specs.Pairs.{gathered_pairs}
use Rattle.codeco_early_faults.specs.Early.{rule_kind_pairs}
use Rattle.codeco_early_faults.proofs.categories.kind_pairs_of.Given as goal

abbrev pub invariant-loop-item : goal.invariant-loop-item
invariant-loop-item l = gathered_pairs l.pairs (flat_map (λ i. flat_map rule_kind_pairs (item_rules i)) (drop l.item-index l.item-items))
    ≡ gathered_pairs l.initial.pairs (flat_map (λ i. flat_map rule_kind_pairs (item_rules i)) l.item-items)
