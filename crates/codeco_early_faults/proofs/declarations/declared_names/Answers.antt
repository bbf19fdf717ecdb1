use Rattle.codeco_early_faults.specs.Early.{item_names}
use Rattle.codeco_early_faults.proofs.Gathering.{names_turn}
use Rattle.codeco_early_faults.proofs.declarations.declared_names.Goals as goal

pub loop-item-preserved : goal.loop-item-preserved
loop-item-preserved c =
    names_turn item_names c.new-names.result c.loop-item.names c.put_declared.new.names c.as_slice-item-items.result.now c.loop-item.item-index
    c.item-item.result c.loop-item-test.true c.item-item.is c.loop-item.invariant c.in_ok-put_declared.ensures.names
