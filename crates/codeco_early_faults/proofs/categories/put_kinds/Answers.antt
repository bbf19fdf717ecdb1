use Rattle.codeco_early_faults.specs.Early.{kind_pairs}
use Rattle.codeco_early_faults.proofs.Gathering.{pairs_turn}
use Rattle.codeco_early_faults.proofs.categories.put_kinds.Goals as goal

pub loop-element-preserved : goal.loop-element-preserved
loop-element-preserved c =
    pairs_turn kind_pairs c.args.pairs.now c.loop-element.pairs c.put_element_kind.new.pairs c.args.body.now c.loop-element.element-index c.element-item.result
    c.loop-element-test.true c.element-item.is c.loop-element.invariant c.in_ok-put_element_kind.ensures
