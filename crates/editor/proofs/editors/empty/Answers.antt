use Rattle.std.proofs.Common.{◌∙◌}
use Rattle.editor.proofs.EditingLemmas.{front_all, front_less, front_none}
use Rattle.editor.proofs.editors.empty.Goals as goal

pub loop-init : goal.loop-init
loop-init c = front_all _ c.requires

pub loop-preserved : goal.loop-preserved
loop-preserved c = let dropped = c.back.ensures.last c.loop-test.true in (front_less _ _ _ c.loop.invariant dropped.0 dropped.1).0

pub loop-smaller : goal.loop-smaller
loop-smaller c = let dropped = c.back.ensures.last c.loop-test.true in (front_less _ _ _ c.loop.invariant dropped.0 dropped.1).1

pub returns : goal.returns
returns c = let none = c.back.ensures.none c.loop-test.false in none.1 ∙ front_none _ _ c.loop.invariant none.0
