use Rattle.codeco_early_faults.specs.Early.{item_atoms}
use Rattle.codeco_early_faults.proofs.Gathering.{names_turn}
use Rattle.codeco_early_faults.proofs.declarations.declared_atoms.Goals as goal

pub loop-item-preserved : goal.loop-item-preserved
loop-item-preserved c =
    names_turn item_atoms c.new-atoms.result c.loop-item.atoms c.put_atoms.new.atoms c.as_slice-item-items.result.now c.loop-item.item-index c.item-item.result
    c.loop-item-test.true c.item-item.is c.loop-item.invariant c.in_ok-put_atoms.ensures
