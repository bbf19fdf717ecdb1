use Rattle.std.proofs.Common.{◌∙◌, ap}
use Rattle.codeco_checked.specs.Numbering.{differ}
use Rattle.codeco_early_faults.specs.Early.{declared_names}
use Rattle.codeco_early_faults.proofs.Doubles.{item_turn_stands, item_turn_new}
use Rattle.codeco_early_faults.proofs.declarations.has_different_names.Goals as goal

pub returns-then-not-branch : goal.returns-then-not-branch
returns-then-not-branch c =
    item_turn_stands c.loop-item.before c.as_slice-item-items.result.now c.loop-item.item-index c.item-item.result c.loop-item-test.true c.item-item.is
    c.loop-item.invariant.left c.in_ok-put_declared.field-0 c.in_ok-put_declared.ensures.new c.if-not-branch.true
    ∙ ap (λ items. differ (declared_names items)) c.as_slice-item-items.ensures

pub loop-item-preserved : goal.loop-item-preserved
loop-item-preserved c =
    let both = item_turn_new c.loop-item.before c.as_slice-item-items.result.now c.loop-item.item-index c.item-item.result c.loop-item-test.true c.item-item.is
    c.loop-item.invariant.left c.in_ok-put_declared.field-0 c.put_declared.new.names c.in_ok-put_declared.ensures.new c.if-not-branch.false
    c.in_ok-put_declared.ensures.names c.loop-item.invariant.different in
    record { different = both.0; left = both.1 }
