use Rattle.codeco_early_faults.proofs.Doubles.{told_old, told_new, turn_stands, turn_new}
use Rattle.std.proofs.Common.{◌∙◌, ap, ◌∷◌, []}
use Rattle.codeco_numbering.specs.Numbered.{gathered}
use Rattle.codeco_early_faults.proofs.declarations.are_different.Goals as goal

pub returns-then-not-branch : goal.returns-then-not-branch
returns-then-not-branch c =
    let before = c.loop-name.before in
    let told = told_old before c.in_ok-put.field-0 c.as_bytes.result.now c.name-item.result c.in_ok-put.ensures.new c.as_bytes.ensures c.if-not-branch.true in
    turn_stands before c.args.names.now c.loop-name.name-index c.name-item.result c.loop-name-test.true c.name-item.is c.loop-name.invariant.left told

pub loop-name-preserved : goal.loop-name-preserved
loop-name-preserved c =
    let before = c.loop-name.before in
    let told = told_new before c.in_ok-put.field-0 c.as_bytes.result.now c.name-item.result c.in_ok-put.ensures.new c.as_bytes.ensures c.if-not-branch.false in
    let both = turn_new before c.args.names.now c.loop-name.name-index c.name-item.result c.loop-name-test.true c.name-item.is c.loop-name.invariant.left
    c.put.new.self told (c.in_ok-put.ensures.names ∙ ap (λ w. gathered before (w ∷ [])) c.as_bytes.ensures) c.loop-name.invariant.different in
    record { different = both.0; left = both.1 }
