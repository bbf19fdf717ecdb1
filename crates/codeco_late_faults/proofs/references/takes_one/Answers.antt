use Rattle.std.proofs.Common.{◌∙◌, sym, get_or, arith}
use Rattle.codeco_checked.specs.Numbering.{has}
use Rattle.codeco_late_faults.proofs.MarkLemmas.{set_has, any_second_stop, any_second_go}
use Rattle.codeco_late_faults.proofs.references.takes_one.Goals as goal

pub returns-then-plain-variable : goal.returns-then-plain-variable
returns-then-plain-variable c = λ xs h.
    let x = (get_or c.args.taken.now c.loop-variable.variable-index (0, 0)).1 in
    any_second_stop (has xs) c.args.taken.now c.loop-variable.variable-index (0, 0) _ (omega arith) (c.loop-variable.invariant xs h)
    (sym (set_has 256 c.args.plain.now xs x h (omega arith)) ∙ c.if-plain-variable.true)

pub loop-variable-preserved : goal.loop-variable-preserved
loop-variable-preserved c = λ xs h.
    let x = (get_or c.args.taken.now c.loop-variable.variable-index (0, 0)).1 in
    any_second_go (has xs) c.args.taken.now c.loop-variable.variable-index (0, 0) _ (omega arith) (c.loop-variable.invariant xs h)
    (sym (set_has 256 c.args.plain.now xs x h (omega arith)) ∙ c.if-plain-variable.false)
