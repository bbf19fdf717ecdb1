use Rattle.std.proofs.Common.{[], sym, ap, ◌∙◌}
use Rattle.std.specs.List.{flat_map}
use Rattle.codeco_numbering.specs.Numbered.{item_rules}
use Rattle.codeco_early_faults.specs.Pairs.{gathered_pairs}
use Rattle.codeco_early_faults.specs.Early.{rule_kind_pairs, written_kind_pairs}
use Rattle.codeco_early_faults.proofs.Gathering.{pairs_turn, pairs_end, flat_map-flat_map}
use Rattle.codeco_early_faults.proofs.categories.kind_pairs_of.Goals as goal

pub loop-item-preserved : goal.loop-item-preserved
loop-item-preserved c =
    pairs_turn (λ i. flat_map rule_kind_pairs (item_rules i)) c.new-pairs.result c.loop-item.pairs c.put_item_kinds.new.pairs c.as_slice-item-items.result.now
    c.loop-item.item-index c.item-item.result c.loop-item-test.true c.item-item.is c.loop-item.invariant c.in_ok-put_item_kinds.ensures

pub returns : goal.returns
returns c =
    let items = c.as_slice-item-items.result.now in
    pairs_end (λ i. flat_map rule_kind_pairs (item_rules i)) c.new-pairs.result c.loop-item.pairs items c.loop-item.item-index c.loop-item-test.false
    c.loop-item.invariant
    ∙ ap (λ ps. gathered_pairs ps (flat_map (λ i. flat_map rule_kind_pairs (item_rules i)) items)) c.new-pairs.ensures
    ∙ ap (gathered_pairs []) (sym (flat_map-flat_map rule_kind_pairs item_rules items))
    ∙ ap (λ is. gathered_pairs [] (written_kind_pairs is)) c.as_slice-item-items.ensures
